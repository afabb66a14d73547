-- Where links come from, made one after another.
use Rattle.std.proofs.Common.{◌≡◌, inl, inr, ℕ, Bool, [], ◌∷◌, List, Option, Err, sym, subst}
use Rattle.node_settings.specs.declared.settings.Settings.{Settings}
use Rattle.node_mount.specs.Asking.{AsksLinks, files_of, http_of}
use Rattle.node_mount.specs.Doors.{AsksDoors, CallsBack, DoorsBack}
use Rattle.node_objects.specs.Making.{TakesBack, gave, refused}
use Rattle.node_mount.specs.Returns.{CameBack}
use Rattle.node_objects.specs.declared.asked.Asked.{Asked}
use Rattle.node_mount.specs.declared.doors.Unmade.{Unmade}
use Rattle.node_mount.specs.declared.doors.Unmade.TheVariants as unmade
use Rattle.node_mount.specs.declared.mount_fault.MountFault.TheVariants as fault
use Rattle.node_objects.specs.declared.returned.Returned.{Returned}
use Rattle.node_objects.specs.declared.returned.Returned.TheVariants as returned
use Rattle.node_mount.proofs.AskLemmas.{refuses_after, then_these}
use Rattle.node_mount.proofs.BackLemmas.{and_one, one_back}

-- the acceptor of file links came back behind what did
doors_back : {D F H T S : Type 0} (C R : Type 0) (s : Settings) (files : F) (asked mid_asked now_asked : Option (List Asked)) (old mid new : Option (List (Returned D F H T S))) (why : Unmade)
    → TakesBack (gave (files_of s)) asked mid_asked → CallsBack {D = D} {F = F} {H = H} {T = T} {S = S} {R = C} s mid_asked now_asked old mid (Err why) → TakesBack (returned.Files files) mid new
    → DoorsBack {D = D} {F = F} {H = H} {T = T} {S = S} {R = R} s asked now_asked old new (Err why)
doors_back C R s files asked mid_asked now_asked old mid new unmade.Network given (inl calls) back =
    inr (inl (
      then_these (gave (files_of s)) (refused (http_of s) ∷ []) asked mid_asked now_asked given calls.0,
      (files, one_back (returned.Files files) old new (subst (λ told. TakesBack (returned.Files files) told new) calls.1 back)),
    ))
doors_back C R s files asked mid_asked now_asked old mid new unmade.Network given (inr calls) back =
    inr (inr (
      refuses_after (gave (files_of s)) (gave (http_of s) ∷ []) s asked mid_asked now_asked given calls.0,
      (files, calls.1.0, and_one (returned.Http calls.1.0 ∷ []) (returned.Files files) old mid new calls.1.1 back),
    ))
doors_back C R s files asked mid_asked now_asked old mid new unmade.NoMemory given calls back = tt

-- the same of what is told behind that, where nothing more was asked for
pub all_doors_back : {D F H T S : Type 0} (C R : Type 0) (s : Settings) (files : F) (asked mid_asked now_asked last_asked : Option (List Asked)) (old first mid new : Option (List (Returned D F H T S))) (why : Unmade)
    → TakesBack (gave (files_of s)) asked mid_asked → first ≡ old → CallsBack {D = D} {F = F} {H = H} {T = T} {S = S} {R = C} s mid_asked now_asked first mid (Err why)
    → TakesBack (returned.Files files) mid new → last_asked ≡ now_asked → DoorsBack {D = D} {F = F} {H = H} {T = T} {S = S} {R = R} s asked last_asked old new (Err why)
all_doors_back {D} {F} {H} {T} {S} C R s files asked mid_asked now_asked last_asked old first mid new why given same calls back last =
    subst (λ (told : Option (List Asked)). DoorsBack {D = D} {F = F} {H = H} {T = T} {S = S} {R = R} s asked told old new (Err why)) (sym last)
    (doors_back C R s files asked mid_asked now_asked old mid new why given
    (subst (λ (told : Option (List (Returned D F H T S))). CallsBack {D = D} {F = F} {H = H} {T = T} {S = S} {R = C} s mid_asked now_asked told mid (Err why)) same calls) back)

-- a node to which links can't come asked for this, and got this back
pub unheard_asked : (T R : Type 0) (s : Settings) (old new : Option (List Asked)) → AsksDoors {T = T} s old new (Err unmade.Network) → AsksLinks {R = R} s old new (Err fault.Network)
unheard_asked T R s old new (inl files) = inl files
unheard_asked T R s old new (inr (inl http)) = inr (inl http)
unheard_asked T R s old new (inr (inr proxy)) = inr (inr (inl proxy))

pub unheard_back : {D F H T S : Type 0} (C R : Type 0) (s : Settings) (ended : F → Bool) (given : F → ℕ) (asked asked_now : Option (List Asked)) (old new : Option (List (Returned D F H T S)))
    → DoorsBack {D = D} {F = F} {H = H} {T = T} {S = S} {R = C} s asked asked_now old new (Err unmade.Network)
    → CameBack {D = D} {F = F} {H = H} {T = T} {S = S} {R = R} ended given old new (Err fault.Network)
unheard_back C R s ended given asked asked_now old new (inl none) = inl none.1
unheard_back C R s ended given asked asked_now old new (inr (inl files)) = inr (inl files.1)
unheard_back C R s ended given asked asked_now old new (inr (inr both)) = inr (inr (inl both.1))
