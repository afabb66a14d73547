-- A message is asked once.
use Rattle.std.proofs.Common.{◌≡◌, true, false, List, [], ◌∷◌, ◌++◌, None, Some, refl, sym, ap, ◌∙◌, subst}
use Rattle.std.specs.List.{AllByRecursion}
use Rattle.fuse_msgs.specs.declared.request.Request.{Request}
use Rattle.fuse_msgs.specs.Message.{IsMessage}
use Rattle.fuse_msgs.proofs.OneReading.{one_request}
use Rattle.fuse_msgs.proofs.Refusals.{refusal-message}
use Rattle.turn_desk.specs.History.{entry}
use Rattle.link_session.specs.Asking.{Manner, IsAgain, AskedUntil}
use Rattle.link_session.specs.Rounds.{Round}
use Rattle.link_session.specs.Stands.{Asker}
use Rattle.node_core.specs.declared.ask.Ask.{Ask}
use Rattle.node_core.specs.declared.ask.Ask.TheVariants as ask
use Rattle.node_core.specs.declared.answer.Answer.{Answer}
use Rattle.file_session.specs.declared.serving.Tries.{Tries}
use Rattle.file_session.specs.declared.serving.Tries.TheVariants as tries
use Rattle.file_session.specs.Asking.{FileEntry, is_again, manner, tries_of}
use Rattle.file_session.specs.Message.{IsRound, served, unserved}
use Rattle.file_session.specs.Written.{IsAskedOnce}

-- no answer means: ask again
never_repeated : (m : Manner Ask Answer) (same : Ask) (xs : List FileEntry) → ((given : Answer) → m.again given ≡ false) → AllByRecursion (IsAgain m same) xs → xs ≡ []
never_repeated m same [] never all = refl
never_repeated m same (x ∷ xs) never all = let no : true ≡ false = sym all.0.again ∙ never x.answer in absurd cc

asked_so : (who : Asker) (request : Request) (entries : List FileEntry) (given : Answer) → tries_of request.op ≡ tries.Once
    → AskedUntil (manner who request.op) (ask.File 0 request) [] entries given → IsAskedOnce who request entries
asked_so who request entries given once a =
    let none : a.repeated ≡ [] = never_repeated (manner who request.op) (ask.File 0 request) a.repeated (λ given. ap (λ (t : Tries). is_again t given) once) a.each in
    record {
      now = a.asked.now;
      given = a.asked.given;
      answer = given;
      one = a.entries ∙ ap (λ (xs : List FileEntry). xs ++ entry who.caller a.last given ∷ []) none ∙ ap (λ (asked : Ask). entry who.caller asked given ∷ []) a.asked.is;
    }

pub one_entry : (who : Asker) (round : Round FileEntry) (request : Request) → IsRound who round → IsMessage round.message request → tries_of request.op ≡ tries.Once
    → IsAskedOnce who request round.entries
one_entry who round request (served other given m a reply) is once =
    let same : other ≡ request = one_request round.message other request m is in
    asked_so who request round.entries given once (subst (λ (r : Request). AskedUntil (manner who r.op) (ask.File 0 r) [] round.entries given) same a)
one_entry who round request (unserved opcode unique refused none reply) is once =
    let fine : None ≡ Some _ = sym (refusal-message round.message request is) ∙ refused in absurd cc
