-- Pairs of texts that meet what the sentences of demand 3 suppose of rules as they are written.
use Rattle.std.specs.Prelude.{ℕ, ◌≡◌, refl, Bool, true, false, ◌||◌, eqb, None}
use Prim.Native.Char.{code}
use Prim.Native.String.{String}
use Rattle.std.proofs.Common.{sym, ap, subst, ⊎_elim, arith}
use mathlib.Core.List.Memᴰ
use mathlib.Core.List.{List, [], ◌∷◌, Memᴰ}
use Rattle.scan.specs.Bytes.{bytes}
use Rattle.text.specs.Reading.{Read}
use Rattle.laws.specs.Computed.{computed}
use Rattle.laws.specs.Written as tokens
use Rattle.laws.specs.Written.{Written, words_by, qualifier_words, targets_at, written_at, SameTokens, unless_closed, rules_written, profiles_written, WrittenProfile, WrittenFile, written_of, AcceptedAs, SameWritten, AddedWritten, SameButWritten}
use Rattle.laws.specs.Examples.{rule, only, ordered, shuffled, read_a, write_b, opened, barred, ordered-file, shuffled-file, open-file}

-- ---- two rules whose tokens are the same, quotes, a written allow and the order and repeating of letters aside

abbrev quoted_rule : String
quoted_rule = "audit allow \"/a\" rpx -> \"t\" ,"

abbrev plain_rule : String
plain_rule = "audit /a pxrr ->t,"

abbrev quoted_written : Written
quoted_written = record { qualifiers = bytes "audit" ∷ bytes "allow" ∷ []; pattern = bytes "/a"; perms = bytes "rpx"; target = bytes "t" ∷ []; next = 29 }

abbrev plain_written : Written
plain_written = record { qualifiers = bytes "audit" ∷ []; pattern = bytes "/a"; perms = bytes "pxrr"; target = bytes "t" ∷ []; next = 18 }

pub quoted-tokens : written_at (bytes quoted_rule) 0 ≡ Read quoted_written
unfolding computed written_at qualifier_words words_by targets_at
quoted-tokens = refl

pub plain-tokens : written_at (bytes plain_rule) 0 ≡ Read plain_written
unfolding computed written_at qualifier_words words_by targets_at
plain-tokens = refl

pub same-tokens : SameTokens quoted_written plain_written
unfolding computed
same-tokens =
    record {
      qualifiers = λ w e. rw e;
      pattern = refl;
      letters = λ b. order (eqb b (code "r")) (eqb b (code "p")) (eqb b (code "x"));
      mode = refl;
      target = refl;
    }
  where
    order : (r p x : Bool) → (r || (p || (x || false))) ≡ (p || (x || (r || (r || false))))
    order true true x = refl
    order true false true = refl
    order true false false = refl
    order false true x = refl
    order false false true = refl
    order false false false = refl

-- ---- whole texts by their tokens

-- a rule without a target; the file of one profile
abbrev written : List (List ℕ) → (pattern perms : String) → ℕ → Written
written words pattern perms next = record { qualifiers = words; pattern = bytes pattern; perms = bytes perms; target = []; next = next }

abbrev only_written : String → List Written → WrittenFile
only_written name rules = record { preamble = []; profiles = record { name = bytes name; rules = rules } ∷ [] }

abbrev ordered_written : List Written
ordered_written = written [] "/a" "r" 10 ∷ written [] "/b" "w" 16 ∷ []

abbrev shuffled_written : List Written
shuffled_written = written [] "/b" "ww" 19 ∷ written [] "/a" "r" 36 ∷ written (bytes "allow" ∷ []) "/a" "rr" 49 ∷ []

pub ordered-as : AcceptedAs (bytes ordered) (only_written "/p" ordered_written)
unfolding computed written_at qualifier_words words_by targets_at unless_closed rules_written profiles_written written_of
ordered-as = record { file = only "/p" (read_a ∷ write_b ∷ []); accepted = ordered-file; written = refl }

pub shuffled-as : AcceptedAs (bytes shuffled) (only_written "/p" shuffled_written)
unfolding computed written_at qualifier_words words_by targets_at unless_closed rules_written profiles_written written_of
shuffled-as = record { file = only "/p" (write_b ∷ read_a ∷ read_a ∷ []); accepted = shuffled-file; written = refl }

-- one profile, of the same name
one_written : (R : List Written → List Written → Type 0) (name : String) {vs ws : List Written} → R vs ws → SameButWritten R (only_written name vs) (only_written name ws)
one_written R name {vs} {ws} h =
    record {
      preamble = refl;
      there = λ p m.
          let e = Memᴰ.eq_of_singleton m in
          (record { name = bytes name; rules = ws }, Memᴰ.head refl, ap (λ (x : WrittenProfile). x.name) e, subst (λ (x : WrittenProfile). R x.rules ws) (sym e) h);
      back = λ q m. (record { name = bytes name; rules = vs }, Memᴰ.head refl, ap (λ (x : WrittenProfile). x.name) (sym (Memᴰ.eq_of_singleton m)));
    }

-- each of these is related to one of those
module _ (T : Written → Written → Type 0) (ys : List Written) where
  no_more : (v : Written) → Memᴰ v [] → (w : Written) × Memᴰ w ys × T v w
  no_more v m = absurd (Memᴰ.not-nil m)

  and-this : (x : Written) {xs : List Written} {y : Written} → Memᴰ y ys → T x y → ((v : Written) → Memᴰ v xs → (w : Written) × Memᴰ w ys × T v w)
      → (v : Written) → Memᴰ v (x ∷ xs) → (w : Written) × Memᴰ w ys × T v w
  and-this x {y = y} m h more v k = ⊎_elim (λ e. (y, m, subst (λ (u : Written). T u y) (sym e) h)) (λ n. more v n) (Memᴰ.cases_cons k)

repeated : (x : Bool) → (x || false) ≡ (x || (x || false))
repeated true = refl
repeated false = refl

read-a : SameTokens (written [] "/a" "r" 10) (written [] "/a" "r" 36)
read-a = record { qualifiers = λ w e. refl; pattern = refl; letters = λ b. refl; mode = refl; target = refl }

allow-a : SameTokens (written [] "/a" "r" 10) (written (bytes "allow" ∷ []) "/a" "rr" 49)
unfolding computed
allow-a = record { qualifiers = λ w e. rw e; pattern = refl; letters = λ b. repeated (eqb b (code "r")); mode = refl; target = refl }

write-b : SameTokens (written [] "/b" "w" 16) (written [] "/b" "ww" 19)
unfolding computed
write-b = record { qualifiers = λ w e. refl; pattern = refl; letters = λ b. repeated (eqb b (code "w")); mode = refl; target = refl }

pub same-written : SameButWritten SameWritten (only_written "/p" ordered_written) (only_written "/p" shuffled_written)
same-written =
    one_written SameWritten "/p" (record {
      there = and-this SameTokens _ _ (Memᴰ.tail (Memᴰ.head refl)) read-a (and-this SameTokens _ _ (Memᴰ.head refl) write-b (no_more SameTokens _));
      back = and-this (λ w v. SameTokens v w) _ _ (Memᴰ.tail (Memᴰ.head refl)) write-b
          (and-this (λ w v. SameTokens v w) _ _ (Memᴰ.head refl) read-a (and-this (λ w v. SameTokens v w) _ _ (Memᴰ.head refl) allow-a (no_more (λ w v. SameTokens v w) _)));
    })

abbrev open_written : Written
open_written = written [] "/a*" "rw" 12

abbrev open_allowed : Written
open_allowed = written (bytes "allow" ∷ []) "/a*" "rw" 32

abbrev barred_written : Written
barred_written = written (bytes "deny" ∷ []) "/ab" "w" 16

abbrev kept_written : Written
kept_written = written (bytes "allow" ∷ []) "/a*" "rw" 18

abbrev read_written : Written
read_written = written [] "/ab" "m" 25

pub open-as : AcceptedAs (bytes "/p { /a* rw, }") (only_written "/p" (open_written ∷ []))
unfolding computed written_at qualifier_words words_by targets_at unless_closed rules_written profiles_written written_of
open-as = record { file = only "/p" (opened ∷ []); accepted = open-file; written = refl }

pub barred-as : AcceptedAs (bytes "/p { deny /ab w, allow /a* \nrw , }") (only_written "/p" (barred_written ∷ open_allowed ∷ []))
unfolding computed written_at qualifier_words words_by targets_at unless_closed rules_written profiles_written written_of
barred-as = record { file = only "/p" (barred ∷ opened ∷ []); accepted = record { short = omega arith; file = refl }; written = refl }

pub mapped-as : AcceptedAs (bytes "/p { allow /a* rw, /ab m, }") (only_written "/p" (kept_written ∷ read_written ∷ []))
unfolding computed written_at qualifier_words words_by targets_at unless_closed rules_written profiles_written written_of
mapped-as = record { file = only "/p" (opened ∷ rule false "/ab" 8 None ∷ []); accepted = record { short = omega arith; file = refl }; written = refl }

-- a written allow and the place are of no matter
with-allow : (pattern perms : String) (m n : ℕ) → SameTokens (written [] pattern perms m) (written (bytes "allow" ∷ []) pattern perms n)
unfolding computed
with-allow pattern perms m n = record { qualifiers = λ w e. rw e; pattern = refl; letters = λ b. refl; mode = refl; target = refl }

pub denied-written : SameButWritten (AddedWritten true) (only_written "/p" (open_written ∷ [])) (only_written "/p" (barred_written ∷ open_allowed ∷ []))
unfolding computed
denied-written = one_written (AddedWritten true) "/p" (tokens.added barred_written refl (tokens.kept open_written open_allowed (with-allow "/a*" "rw" 12 32) tokens.none))

pub allowed-written : SameButWritten (AddedWritten false) (only_written "/p" (open_written ∷ [])) (only_written "/p" (kept_written ∷ read_written ∷ []))
unfolding computed
allowed-written = one_written (AddedWritten false) "/p" (tokens.kept open_written kept_written (with-allow "/a*" "rw" 12 18) (tokens.added read_written refl tokens.none))
