-- What is refused of a pattern or value, in the paper's order; 0 where nothing is.
use Rattle.std.specs.Prelude.{ℕ, List, Bool, true, false, length, ltb}
use Rattle.scan.specs.Bytes.{every, is_empty}
use Rattle.pattern.specs.Items.{value_form, value_names, pattern_form, pattern_names}
use Rattle.pattern.specs.Expansions.{Variable, is_set, expansions, count, longest, begins_slash}

-- "Sizes: 1,024 bytes in a written pattern or value, 256 expansions of one pattern, 1,024 pieces in an expansion before slashes join."
abbrev pub too_long : List ℕ → Bool
too_long s = ltb 1024 (length s)

unfoldable pub too_many : List Variable → List ℕ → Bool
too_many vs s = elim (ltb 256 (count vs s)) [ true ↦ true | false ↦ ltb 1024 (longest (expansions vs s)) ]

-- "Every expansion must begin with a literal /"
unfoldable pub rooted : List Variable → List ℕ → Bool
rooted vs s = every begins_slash (expansions vs s)

-- "4 for an empty value, 9 for its bytes, 7 for its form, 6": a malformed name is never set
unfoldable pub value_fault : List Variable → List ℕ → ℕ
value_fault vs s =
    elim (is_empty s) [
      | true ↦ 4
      | false ↦
          elim (too_long s) [
            | true ↦ 9
            | false ↦
                elim (value_form s) [
                  | false ↦ 7
                  | true ↦
                      elim (value_names (is_set vs) s) [ false ↦ 6 | true ↦ 0 ]
                ]
          ]
    ]

-- "9 for its bytes, 7 for its form, 6; then for patterns 9 for expansions or pieces, and 7 for the first /"
unfoldable pub pattern_fault : List Variable → List ℕ → ℕ
pattern_fault vs s =
    elim (too_long s) [
      | true ↦ 9
      | false ↦
          elim (pattern_form s) [
            | false ↦ 7
            | true ↦
                elim (pattern_names (is_set vs) s) [
                  | false ↦ 6
                  | true ↦
                      elim (too_many vs s) [
                        | true ↦ 9
                        | false ↦
                            elim (rooted vs s) [ false ↦ 7 | true ↦ 0 ]
                      ]
                ]
          ]
    ]
