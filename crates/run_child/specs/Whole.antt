-- What a run comes to, seen from its end.
use Rattle.std.specs.Prelude.{◌≡◌, ℕ, List, ◌++◌}
use Rattle.std.specs.Io.KnownBytes.{Appends}
use Rattle.run_child.specs.Course.{IsGranted}
use Rattle.run_child.specs.Requests.{seven}
use Rattle.run_child.specs.Started.{TellsOne, TellsSame}
use Rattle.run_child.specs.Starts.{Book}
use Rattle.run_child.specs.Talk.{Place}

-- what was written is a front of the seven requests, on some node and handle
pub record WritesFront (name : List ℕ) (old new : Place) : Type 0 where
  pub node : ℕ
  pub fh : ℕ
  pub bytes : List ℕ
  pub more : List ℕ
  pub written : Appends old.taken new.taken bytes
  pub front : bytes ++ more ≡ seven name node fh

-- no program was started, or one was with these words, and the lock had been granted before
pub data StartsOnce (name : List ℕ) (words : List (List ℕ)) (old : Place) (book book_now : Book) : Type 0 where
  none : TellsSame book.starts book_now.starts → StartsOnce name words old book book_now
  one : (status node fh : ℕ) (locked : Place) → TellsOne book.starts book_now.starts (record { words = words; gave = status })
      → IsGranted name node fh old locked → StartsOnce name words old book book_now
