-- What the definitions of tokens say at a place of a text.
use Rattle.std.specs.Prelude.{if◌then◌else◌}
use Prim.Native.Nat.{ℕ, ◌+◌, ◌-◌, ◌≤◌, ◌<◌}
use mathlib.Core.Path.{◌≡◌, refl, sym, ap, ◌∙◌}
use mathlib.Core.List.{List, [], ◌∷◌}
use mathlib.Core.Logic.{⊎_elim}
use mathlib.Core.Bool.{Bool, true, false, false≢true}
use lib.ListN.{length, get_or, drop, drop_of_length-le, length-drop}
use lib.Seq.{drop-cons, drop-drop}
use lib.Dec.{eqb}
use native.Mathlib.Numerals.{add-one}
use native.Mathlib.Nat.{add-sub_cancel_left}
use native.Mathlib.Omega.{arith}
use borrow.Author.Tests.{eq-eqb, ne_eqb}
use types.Run.{OneOf}
use denote.Enum.Declared.{tag_of}
use Rattle.scan.specs.Bytes.{begins, run, span}
use Rattle.text.specs.Places.{refused_by}
use Rattle.blanks.specs.Blanks.{hash, nul, standing}
use Rattle.blanks.proofs.Laws.{standing-inside}
use Rattle.tokens.specs.Tokens.{Next, Found, Stopped, End, in_quotes, plain, plain_token, quote, quoted_token, token_at, token_from, wanted}
use Rattle.tokens.specs.Places.{seen, stop_of, token_of}
use Rattle.tokens.specs.declared.Token as code
use Rattle.tokens.specs.declared.Read.{Read}
use Rattle.tokens.specs.declared.Read.TheVariants as read
use Rattle.tokens.specs.contracts.Read.{the_type}

-- a quoted token, and an unquoted one, by the byte after the n bytes that it holds
module _ (s : List ℕ) (p n e : ℕ) where
  pub quoted-found : e ≡ p + 1 + n → begins quote (drop e s) ≡ true →
      Found (record { start = p; content = span s (p + 1) e; quoted = true; next = e + 1 }) ≡ quoted_token p n (drop (p + 1) s)
  quoted-found q = rw q λ h. rw (add-sub_cancel_left, drop-drop, h)

  pub quoted-open : e ≡ p + 1 + n → begins quote (drop e s) ≡ false → Stopped 4 p ≡ quoted_token p n (drop (p + 1) s)
  quoted-open q = rw q λ h. rw (drop-drop, h)

  pub plain-found : e ≡ p + n → begins quote (drop e s) ≡ false →
      Found (record { start = p; content = span s p e; quoted = false; next = e }) ≡ plain_token p n (drop p s)
  plain-found q = rw q λ h. rw (add-sub_cancel_left, drop-drop, h)

  pub plain-broken : e ≡ p + n → begins quote (drop e s) ≡ true → Stopped 4 p ≡ plain_token p n (drop p s)
  plain-broken q = rw q λ h. rw (drop-drop, h)

-- what stands at p, by its first byte
module _ (stop : ℕ) (s : List ℕ) where
  pub from_place : (at p : ℕ) {r : Next} → p ≡ standing s at → r ≡ token_from stop p (drop p s) → r ≡ token_at stop s at
  unfolding token_at
  from_place at p q e = e ∙ ap (λ (k : ℕ). token_from stop k (drop k s)) q

  module _ (p : ℕ) where
    pub from_end : length s ≤ p → End p ≡ token_from stop p (drop p s)
    unfolding token_from
    from_end h = rw (drop_of_length-le s h)

    pub from-nul : p < length s → get_or s p 0 ≡ nul → Stopped 4 p ≡ token_from stop p (drop p s)
    unfolding token_from
    from-nul h z = rw (drop-cons s p 0, eq-eqb _ _ z, token_from)

    module _ (h : p < length s) (z : get_or s p 0 ≡ nul → ⊥) where
      pub from-hash : get_or s p 0 ≡ hash → Stopped 5 p ≡ token_from stop p (drop p s)
      unfolding token_from
      from-hash k = rw (drop-cons s p 0, ne_eqb _ _ z, eq-eqb _ _ k, token_from)

      module _ (c : get_or s p 0 ≡ hash → ⊥) where
        pub from-quote : get_or s p 0 ≡ quote → quoted_token p (run in_quotes (drop (p + 1) s)) (drop (p + 1) s) ≡ token_from stop p (drop p s)
        unfolding token_from
        from-quote k = rw (drop-cons s p 0, ne_eqb _ _ z, ne_eqb _ _ c, eq-eqb _ _ k, ← add-one p, token_from)

        module _ (q : get_or s p 0 ≡ quote → ⊥) where
          pub from-stop : get_or s p 0 ≡ stop → Found (record { start = p; content = span s p (p + 1); quoted = false; next = p + 1 }) ≡ token_from stop p (drop p s)
          unfolding token_from
          from-stop k = rw (add-sub_cancel_left, drop-cons s p 0, ne_eqb _ _ z, ne_eqb _ _ c, ne_eqb _ _ q, eq-eqb _ _ k, token_from)

          pub from-plain : (get_or s p 0 ≡ stop → ⊥) → plain_token p (run (plain stop) (drop p s)) (drop p s) ≡ token_from stop p (drop p s)
          unfolding token_from
          from-plain k = rw (drop-cons s p 0, ne_eqb _ _ z, ne_eqb _ _ c, ne_eqb _ _ q, ne_eqb _ _ k, token_from)

-- End is told at the text's end and nowhere else
abbrev is_end : Next → Bool
is_end (Found t) = false
is_end (Stopped n p) = false
is_end (End p) = true

abbrev end_of : Next → ℕ
end_of (Found t) = 0
end_of (Stopped n p) = 0
end_of (End p) = p

either : (x : Bool) (a b : Next) → is_end a ≡ false → is_end b ≡ false → is_end (if x then a else b) ≡ false
either true a b e f = e
either false a b e f = f

not_end : (stop p b : ℕ) (s : List ℕ) → is_end (token_from stop p (b ∷ s)) ≡ false
unfolding token_from
not_end stop p b s =
    either (eqb b nul) _ _ refl
    (either (eqb b hash) _ _ refl
    (either (eqb b quote) _ _ (either (begins quote (drop (run in_quotes s) s)) _ _ refl refl)
    (either (eqb b stop) _ _ refl (either (begins quote (drop (run (plain stop) (b ∷ s)) (b ∷ s))) _ _ refl refl))))

pub end-place : (stop : ℕ) (s : List ℕ) (at p : ℕ) → at ≤ length s → token_at stop s at ≡ End p → p ≡ length s
unfolding token_at token_from
end-place stop s at p h e = go (drop (standing s at) s) (length-drop (standing s at) s) e
  where
    go : (l : List ℕ) → length l ≡ length s - standing s at → token_from stop (standing s at) l ≡ End p → p ≡ length s
    go [] k q = omega (arith, standing-inside s at h, ap end_of q)
    go (b ∷ l) k q = absurd (false≢true (sym (not_end stop (standing s at) b l) ∙ ap is_end q))

-- two places with the same thing next have the same next token
pub token-by : (stop : ℕ) (s : List ℕ) (a b : ℕ) → standing s a ≡ standing s b → token_at stop s a ≡ token_at stop s b
unfolding token_at
token-by stop s a b e = ap (λ (k : ℕ). token_from stop k (drop k s)) e

-- where the code has no token: another variant of Read
module _ (s : List ℕ) where
  pub no-token : (r : Read) → OneOf (1 ∷ 2 ∷ []) (tag_of the_type r) → wanted (seen s r) ≡ refused_by (stop_of r)
  unfolding seen stop_of
  no-token (read.Found t) h = absurd (⊎_elim (λ e. omega arith) (λ e. omega arith) h)
  no-token (read.Stopped stop) h = refl
  no-token (read.End p) h = refl

  pub not_found : {A : Type 0} (r : Read) → OneOf (1 ∷ 2 ∷ []) (tag_of the_type r) → (f : Next → A) {a : A} →
      ((n p : ℕ) → f (Stopped n p) ≡ a) → ((p : ℕ) → f (End p) ≡ a) → f (seen s r) ≡ a
  unfolding seen
  not_found (read.Found t) h f x y = absurd (⊎_elim (λ e. omega arith) (λ e. omega arith) h)
  not_found (read.Stopped stop) h f x y = x stop.number stop.place.0
  not_found (read.End p) h f x y = y p.0

  -- and where it has one
  pub seen-found : (t : code.Token) → seen s (read.Found t) ≡ Found (token_of s t)
  unfolding seen
  seen-found t = refl
