-- What the definition of qualifiers says, and that a rule is the same from two places with the same thing next.
use Rattle.std.specs.Prelude.{if◌then◌else◌}
use Prim.Native.Nat.{ℕ}
use mathlib.Core.Path.{◌≡◌, refl, sym, ap}
use mathlib.Core.List.{List}
use mathlib.Core.Bool.{Bool, true, false, ◌||◌, ◌&&◌, false≢true}
use Rattle.scan.specs.Bytes.{bytes}
use Rattle.text.specs.Reading.{Reading, Read, ◌>>=◌, refuse_if}
use Rattle.blanks.specs.Blanks.{standing}
use Rattle.tokens.specs.Tokens.{Token, Next, Found, Stopped, End, comma, is_word, no_stop, token_at, wanted}
use Rattle.tokens.proofs.Laws.{token-by}
use Rattle.keywords.specs.Keywords.{barred, word_is}
use Rattle.rule.specs.Rules.{Optional, Qualifiers, if_word, optional, pattern_at, pattern_from, qualifiers_at, rule_end, rule_from}
use Rattle.rule.specs.Places.{deny_after}

-- the four words, one after another
pub qualified : (s : List ℕ) (at : ℕ) (a l d o : Optional) → a ≡ optional (bytes "audit") s at → l ≡ optional (bytes "allow") s a.next →
    d ≡ deny_after s l → o ≡ optional (bytes "owner") s d.next →
    record { audit = a.found; deny = d.found; owner = o.found; some = a.found || l.found || d.found || o.found; next = o.next } ≡ qualifiers_at s at
unfolding qualifiers_at
qualified s at a l d o ea el ed eo = rw (← ea, ← el, ← ed, ← eo, qualifiers_at)

-- ---- two places with the same thing next

record Near (s : List ℕ) (o p : Optional) : Type 0 where
  pub found : o.found ≡ p.found
  pub next : standing s o.next ≡ standing s p.next

near-optional : (w s : List ℕ) (a b : ℕ) → standing s a ≡ standing s b → Near s (optional w s a) (optional w s b)
unfolding optional
near-optional w s a b e = rw (token-by no_stop s a b e) (by (token_at no_stop s b))
  where
    test : (t : Token) (x : Bool) → Near s (if x then record { found = true; next = t.next } else record { found = false; next = a }) (if x then record { found = true; next = t.next } else record { found = false; next = b })
    test t true = record { found = refl; next = refl }
    test t false = record { found = refl; next = e }

    by : (n : Next) → Near s (if_word w a n) (if_word w b n)
    by (Found t) = test t (is_word t w)
    by (Stopped n p) = record { found = refl; next = e }
    by (End p) = record { found = refl; next = e }

near-deny : (s : List ℕ) (l m : Optional) → Near s l m → Near s (deny_after s l) (deny_after s m)
near-deny s l m h = go l.found m.found h.found
  where
    go : (x y : Bool) → x ≡ y →
        Near s (if x then record { found = false; next = l.next } else optional (bytes "deny") s l.next)
        (if y then record { found = false; next = m.next } else optional (bytes "deny") s m.next)
    go true true q = record { found = refl; next = h.next }
    go false false q = near-optional (bytes "deny") s l.next m.next h.next
    go true false q = absurd (false≢true (sym q))
    go false true q = absurd (false≢true q)

-- qualifiers that end before the same thing
pub record Alike (s : List ℕ) (q r : Qualifiers) : Type 0 where
  pub audit : q.audit ≡ r.audit
  pub deny : q.deny ≡ r.deny
  pub owner : q.owner ≡ r.owner
  pub some : q.some ≡ r.some
  pub next : standing s q.next ≡ standing s r.next

pub alike : (s : List ℕ) (a b : ℕ) → standing s a ≡ standing s b → Alike s (qualifiers_at s a) (qualifiers_at s b)
unfolding qualifiers_at
alike s a b e =
    let a₁ : Optional = optional (bytes "audit") s a in
    let b₁ : Optional = optional (bytes "audit") s b in
    let a₂ : Optional = optional (bytes "allow") s a₁.next in
    let b₂ : Optional = optional (bytes "allow") s b₁.next in
    let a₃ : Optional = deny_after s a₂ in
    let b₃ : Optional = deny_after s b₂ in
    let audit : Near s a₁ b₁ = near-optional (bytes "audit") s a b e in
    let allow : Near s a₂ b₂ = near-optional (bytes "allow") s a₁.next b₁.next audit.next in
    let deny : Near s a₃ b₃ = near-deny s a₂ b₂ allow in
    let owner = near-optional (bytes "owner") s a₃.next b₃.next deny.next in
    record {
      audit = audit.found;
      deny = deny.found;
      owner = owner.found;
      some = λ i. audit.found i || allow.found i || deny.found i || owner.found i;
      next = owner.next;
    }

pub pattern-alike : (s : List ℕ) {q r : Qualifiers} → Alike s q r → pattern_at s q ≡ pattern_at s r
unfolding pattern_at pattern_from
pattern-alike s {q} {r} h = λ i. read (token-by comma s q.next r.next h.next i) (h.next i) (token-by no_stop s q.next r.next h.next i) (h.some i)
  where
    read : Next → ℕ → Next → Bool → Reading Token
    read first place token some = do
      _ ← refuse_if (word_is (barred true) first) 5 place
      t ← wanted token
      _ ← refuse_if (some && is_word t (bytes "{")) 5 t.start
      Read t

-- by the token that was read
pub pattern-from : (s : List ℕ) (q : Qualifiers) {next : Next} → next ≡ token_at no_stop s q.next → pattern_from s next q ≡ pattern_at s q
unfolding pattern_at
pattern-from s q e = ap (λ (n : Next). pattern_from s n q) e

pub rule-alike : (fault : List ℕ → ℕ) (s : List ℕ) {q r : Qualifiers} (t : Token) → Alike s q r → rule_from fault s q t ≡ rule_from fault s r t
unfolding rule_from rule_end
rule-alike fault s t h = λ i. rule_from fault s (record { audit = h.audit i; deny = h.deny i; owner = h.owner i; some = h.some i; next = 0 }) t
