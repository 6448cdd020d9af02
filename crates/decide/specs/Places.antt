-- The rules of a profile in the table of profiles.
use Rattle.std.specs.Prelude.{ℕ, zero, suc, ◌+◌, ◌*◌, List, true, false, get_or, Option, Some, None}
use Rattle.scan.specs.Bytes.{same}
use Rattle.text.specs.Places.{place}
use Rattle.pattern.specs.Table.{bytes_at}
use Rattle.decide.specs.declared.Rules.{Rules}

-- where the rules of the first of k profiles from profile i on that has this name start, and how many they are
unfoldable pub found_from : (text t : List ℕ) → (k i : ℕ) → (name : List ℕ) → Option Rules
found_from text t zero i name = None
found_from text t (suc k) i name =
    elim (same (bytes_at text t (4 * i)) name) [
      | true ↦ Some (record { at = place (get_or t (4 * i + 2) 0); count = get_or t (4 * i + 3) 0 })
      | false ↦ found_from text t k (i + 1) name
    ]
