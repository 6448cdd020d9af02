-- What is refused of a pattern by its size, and of a pattern under a table of sizes, whatever the table holds.
use Rattle.std.specs.Prelude.{ℕ, List, if◌then◌else◌}
use Rattle.pattern.specs.Items.{pattern_form, pattern_names}
use Rattle.pattern.specs.Expansions.{is_set}
use Rattle.pattern.specs.Faults.{too_long}
use Rattle.pattern.specs.Table.{env}
use Rattle.sizes.specs.declared.Size.{Size}
use Rattle.sizes.specs.Sizes.{over_size, rooted_size}
use Rattle.sizes.specs.Numbered.{pattern_by}

unfoldable pub size_fault : Size → ℕ
size_fault z = if over_size z then 9 else if rooted_size z then 0 else 7

-- "9 for its bytes, 7 for its form, 6; then for patterns 9 for expansions or pieces, and 7 for the first /", these two by the table
unfoldable pub fault_by : (text vars : List ℕ) (n : ℕ) (table s : List ℕ) → ℕ
fault_by text vars n table s =
    if too_long s then 9
    else if pattern_form s then (if pattern_names (is_set (env text vars n)) s then size_fault (pattern_by text vars n table s).size else 6)
    else 7
