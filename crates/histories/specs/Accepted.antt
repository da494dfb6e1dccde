-- The accepted writes and cuts of a history: from the requests and the outcome numbers alone, with no container.
use Rattle.std.specs.Prelude.{ℕ, cond, List, [], ◌∷◌, ◌++◌, eqb}
use Rattle.rules.specs.Requests.{request_of}
use Rattle.histories.specs.Runs.{Call, Heard}
use Rattle.rules.specs.Changes.{Change, changes_of, size_after}

-- They are accepted when the request is answered 0 (docs/RULES.md, H9).
unfoldable pub took : Call → Heard → ℕ → List Change
took x a n = cond (eqb a.answer.number 0) (changes_of (request_of x.request) n) []

-- The accepted changes of a history from a size on, oldest first (H9).
unfoldable pub accepted : List Call → List Heard → ℕ → List Change
accepted [] ys n = []
accepted (x ∷ xs) [] n = []
accepted (x ∷ xs) (a ∷ ys) n = took x a n ++ accepted xs ys (size_after (took x a n) n)
