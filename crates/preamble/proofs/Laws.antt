-- What the definitions of assignments say at a place.
use Rattle.std.specs.Prelude.{if◌then◌else◌}
use Prim.Native.Nat.{ℕ, zero, suc, ◌+◌, ◌*◌, ◌-◌, ◌≤◌, ◌<◌, min}
use Prim.Native.Char.{code}
use mathlib.Core.Path.{◌≡◌, refl, sym, ap, ap₂, ◌∙◌}
use mathlib.Core.List.{List, [], ◌∷◌, ◌++◌, append-nil, append_assoc}
use mathlib.Core.Bool.{Bool, true, false, not, ◌||◌, false≢true}
use lib.ListN.{length, take, drop, length-take, length-drop, length-append}
use lib.Dec.{eqb, leb}
use borrow.Author.Tests.{ne_eqb, le-leb, lt-leb, leb-true, leb-false, eqb-false}
use native.Mathlib.Omega.{arith}
use Rattle.scan.specs.Bytes.{begins, bytes, is_empty, run, same, some, span}
use Rattle.scan.proofs.Laws.{same-eq, same_self}
use Rattle.names.specs.Names.{variable_fault}
use Rattle.text.specs.Reading.{Reading, Read, Refused, ◌>>=◌, refuse_if, judged}
use Rattle.tokens.specs.Tokens.{Token, Found, no_stop, token_at, wanted}
use Rattle.blanks.specs.Blanks.{standing, stands_at}
use Rattle.tokens.proofs.Laws.{seen-found}
use Rattle.text.specs.Places.{place, refused_by}
use Rattle.tokens.specs.Places.{seen, stop_of, token_of}
use Rattle.tokens.specs.declared.Read as tokens
use Rattle.tokens.specs.declared.Token as code
use Rattle.tokens.specs.declared.Read.TheVariants as read
use Rattle.pattern.specs.Expansions.{Variable, is_set}
use Rattle.pattern.specs.Faults.{value_fault}
use Rattle.pattern.specs.Table.{bytes_at, variables, env, number_of, values_of as held_values}
use Rattle.pattern.proofs.Laws.{number-le, number-set}
use Rattle.faults.proofs.Laws.{empty-yes, empty-no}
use Rattle.preamble.specs.declared.Opened.{Opened}
use Rattle.std.proofs.Common.{Option, Some, None, Ok, Err}
use Rattle.preamble.specs.declared.Values.{Values as ValuesRead}
use Rattle.preamble.specs.declared.Preamble.{Preamble as PreambleRead}
use Rattle.preamble.specs.declared.Operator.{Operator as OperatorRead}
use Rattle.text.specs.declared.Stop.{Stop}
use Rattle.variables.specs.Added.{Added, name_set, room, value_set}
use Rattle.variables.proofs.Laws.{added_none, added-both, added-before, added-room, length-values, name_set_lem, value_set_lem}
use Rattle.preamble.specs.Variables.{Assignment, values_of, set_before, extended, assigned, final_sets}
use Rattle.preamble.specs.Preamble.{Values, Operator, Assigned, Preamble, after_name, assignment_at, in_line_at, in_name, line_ends, name_fault, operator_from, preamble_at, assignment_then, values_at, value_then}
use Rattle.preamble.specs.Places.{after, after_fault, after_operator, after_values, assigned_of, given_to, next_fault, Opening, preamble_of, seen_operator, seen_preamble, Stored, Upto, State}

-- ---- lines and operators

module _ (s : List ℕ) (i : ℕ) where
  -- two bytes stand there
  pub two-fit : (w : List ℕ) → length w ≡ 2 → same (take 2 (drop i s)) w ≡ true → i + 2 ≤ length s
  two-fit w h e = omega (arith, ap length (same-eq (take 2 (drop i s)) w e), length-take 2 (drop i s), length-drop i s)

-- the refusal of any token but an operator
pub no-operator : (s : List ℕ) (r : tokens.Read) → (wanted (seen s r) >>= λ t. Refused 4 t.start) ≡ refused_by {A = Operator} (stop_of r)
unfolding seen stop_of
no-operator s (read.Found t) = refl
no-operator s (read.Stopped stop) = refl
no-operator s (read.End p) = refl

-- ---- variables of a table

pub length-variables : (text t : List ℕ) (n : ℕ) → length (variables text t n) ≡ n
unfolding variables
length-variables text t zero = refl
length-variables text t (suc n) = ap suc (length-variables text t n)

module _ (text t : List ℕ) (n : ℕ) (name : List ℕ) where
  abbrev number_here : ℕ
  number_here = number_of text t (min 32 n) name

  full : leb 32 (length (env text t n)) ≡ leb 32 n
  full = ap (leb 32) (length-variables text t (min 32 n)) ∙ go (leb 32 n) refl
    where
      go : (x : Bool) → leb 32 n ≡ x → leb 32 (min 32 n) ≡ x
      go true e = le-leb 32 (min 32 n) (omega (arith, leb-true 32 n e))
      go false e = lt-leb 32 (min 32 n) (omega (arith, leb-false 32 n e))

  pub fault-number : (adds : Bool) → name_fault (env text t n) adds name ≡
      (if adds then (if not (eqb number_here 0) then 0 else 6) else if not (eqb number_here 0) then 6 else if leb 32 n then 9 else 0)
  fault-number adds = rw (number-set text t name (min 32 n), full)

  -- a name that is set, and one that may be
  pub set-number : name_fault (env text t n) true name ≡ 0 → 0 < number_here
  set-number e = go (eqb number_here 0) refl (sym (fault-number true) ∙ e)
    where
      go : (x : Bool) → eqb number_here 0 ≡ x → (if◌then◌else◌ {A = ℕ} (not x) 0 6) ≡ 0 → 0 < number_here
      go true q f = absurd (omega arith)
      go false q f = omega (arith, eqb-false number_here 0 q)

  pub unset-number : name_fault (env text t n) false name ≡ 0 → (is_set (env text t n) name ≡ false) × (n < 32)
  unset-number e = go (is_set (env text t n) name) (leb 32 n) refl (rw full at e)
    where
      go : (x y : Bool) → leb 32 n ≡ y → (if◌then◌else◌ {A = ℕ} x 6 (if y then 9 else 0)) ≡ 0 → (x ≡ false) × (n < 32)
      go true y q f = absurd (omega arith)
      go false true q f = absurd (omega arith)
      go false false q f = (refl, leb-false 32 n q)

abbrev one : List ℕ → List (List ℕ) → Variable
one n vs = record { name = n; values = vs }

module _ (text t name : List ℕ) where
  -- the values of a variable, and those before it, by its number
  number-values : (n w : ℕ) → number_of text t n name ≡ suc w → values_of (variables text t n) name ≡ held_values text t w
  unfolding number_of variables values_of
  number-values zero w e = absurd (omega arith)
  number-values (suc v) w e = go (same (bytes_at text t (2 * v)) name) (λ q. number-values v w q) e
    where
      go : (x : Bool) → (number_of text t v name ≡ suc w → values_of (variables text t v) name ≡ held_values text t w) →
          (elim x as (λ _. ℕ) [ true ↦ suc v | false ↦ number_of text t v name ]) ≡ suc w →
          (elim x as (λ _. List (List ℕ)) [ true ↦ held_values text t v | false ↦ values_of (variables text t v) name ]) ≡ held_values text t w
      go true f q = let k : v ≡ w = omega arith in ap (λ (i : ℕ). held_values text t i) k
      go false f q = f q

  number-before : (n w : ℕ) → number_of text t n name ≡ suc w → set_before (variables text t n) name ≡ variables text t w
  unfolding number_of variables set_before
  number-before zero w e = absurd (omega arith)
  number-before (suc v) w e = go (same (bytes_at text t (2 * v)) name) (λ q. number-before v w q) e
    where
      go : (x : Bool) → (number_of text t v name ≡ suc w → set_before (variables text t v) name ≡ variables text t w) →
          (elim x as (λ _. ℕ) [ true ↦ suc v | false ↦ number_of text t v name ]) ≡ suc w →
          (elim x as (λ _. List Variable) [ true ↦ variables text t v | false ↦ set_before (variables text t v) name ]) ≡ variables text t w
      go true f q = let k : v ≡ w = omega arith in ap (λ (i : ℕ). variables text t i) k
      go false f q = f q

  -- values added to the variable of a name
  module _ (new : List ℕ) (ws : List (List ℕ)) (w : ℕ) (a : Added text t new w ws) where
    pub added-extended : (n : ℕ) → n ≤ 32 → number_of text t n name ≡ suc w → variables text new n ≡ extended (variables text t n) name ws
    unfolding number_of variables extended
    added-extended zero h e = absurd (omega arith)
    added-extended (suc v) h e = go (same (bytes_at text t (2 * v)) name) refl (λ q. added-extended v (omega arith) q) e
      where
        go : (x : Bool) → same (bytes_at text t (2 * v)) name ≡ x →
            (number_of text t v name ≡ suc w → variables text new v ≡ extended (variables text t v) name ws) →
            (elim x as (λ _. ℕ) [ true ↦ suc v | false ↦ number_of text t v name ]) ≡ suc w →
            one (bytes_at text new (2 * v)) (held_values text new v) ∷ variables text new v ≡
            (elim x as (λ _. List Variable) [
              | true ↦ one name (held_values text t v ++ ws) ∷ variables text t v
              | false ↦ one (bytes_at text t (2 * v)) (held_values text t v) ∷ extended (variables text t v) name ws
            ])
        go true s f q =
            let k : w ≡ v = omega arith in
            ap₂ ◌∷◌
            (ap₂ one (a.names v (omega arith) ∙ same-eq (bytes_at text t (2 * v)) name s) (rw k at a.more))
            (rw k at (added-before text w a (omega arith)))
        go false s f q =
            let k : suc w ≤ v = rw q at (number-le text t name v) in
            ap₂ ◌∷◌ (ap₂ one (a.names v (omega arith)) (a.others v (omega arith) (λ j. omega arith))) (f q)

unset-values : (vs : List Variable) (n : List ℕ) → is_set vs n ≡ false → values_of vs n ≡ []
unfolding is_set some values_of
unset-values [] n e = refl
unset-values (v ∷ vs) n e = go (same v.name n) (λ q. unset-values vs n q) e
  where
    go : (x : Bool) → (some (λ (u : Variable). same u.name n) vs ≡ false → values_of vs n ≡ []) →
        (x || some (λ (u : Variable). same u.name n) vs) ≡ false → ◌≡◌ {A = List (List ℕ)} (elim x as (λ _. List (List ℕ)) [ true ↦ v.values | false ↦ values_of vs n ]) []
    go true f q = absurd (false≢true (sym q))
    go false f q = f q

-- the variable of a name that is set
pub opening-adds : (text t : List ℕ) (n : ℕ) (name : List ℕ) (k : ℕ) → name_fault (env text t n) true name ≡ 0 →
    k ≡ number_of text t (min 32 n) name → Opening text t (env text t n) true name (record { count = n; w = k - 1 })
unfolding assigned
opening-adds text t n name k e q =
    let h : 0 < number_of text t (min 32 n) name = set-number text t n name e in
    let s : number_of text t (min 32 n) name ≡ suc (k - 1) = omega arith in
    record {
      low = omega (arith, number-le text t name (min 32 n));
      number = s;
      before = number-before text t name (min 32 n) (k - 1) s;
      values = number-values text t name (min 32 n) (k - 1) s;
      result = λ ws. refl;
    }

-- a new variable
pub opening-sets : (text t new : List ℕ) (n start end : ℕ) → name_fault (env text t n) false (span text start end) ≡ 0 →
    (length t ≡ 1120) × (new ≡ name_set t n start end) → Opening text new (env text t n) false (span text start end) (record { count = n + 1; w = n })
unfolding assigned extended number_of
opening-sets text t new n start end e f =
    let u = unset-number text t n (span text start end) e in
    let h : n < 32 = u.1 in
    let c : min 32 (n + 1) ≡ suc n = omega arith in
    let d : min 32 n ≡ n = omega arith in
    let g = name_set_lem t n start end f.0 h text in
    rw f.1
    (record {
      low = h;
      number = rw (c, number_of, g.called, same_self (span text start end));
      before = rw d (sym g.behind);
      values = unset-values (env text t n) (span text start end) u.0 ∙ sym g.none;
      result = λ ws. rw (c, d, g.front, extended, same_self (span text start end));
    })

-- ---- values

after_none : (x : Reading Values) → after [] x ≡ x
unfolding after
after_none (Read v) = refl
after_none (Refused n p) = refl

after-after : (xs ys : List (List ℕ)) (x : Reading Values) → after xs (after ys x) ≡ after (xs ++ ys) x
unfolding after
after-after xs ys (Read v) = rw append_assoc
after-after xs ys (Refused n p) = refl

module _ (vs : List Variable) (s : List ℕ) (at : ℕ) where
  values-end : (left : ℕ) → line_ends (drop (in_line_at s at) s) ≡ true → values_at left vs s at ≡ Read (record { values = []; next = in_line_at s at })
  unfolding values_at
  values-end zero e = rw (e, values_at, value_then)
  values-end (suc left) e = rw (e, values_at, value_then)

  module _ (e : line_ends (drop (in_line_at s at) s) ≡ false) where
    values-stop : (left n p : ℕ) → wanted (token_at no_stop s (in_line_at s at)) ≡ Refused n p → values_at left vs s at ≡ Refused n p
    unfolding values_at
    values-stop zero n p q = rw (e, q, values_at, value_then)
    values-stop (suc left) n p q = rw (e, q, values_at, value_then)

    module _ (t : Token) (q : token_at no_stop s (in_line_at s at) ≡ Found t) where
      values-fault : (left : ℕ) → (next_fault left vs t.content ≡ 0 → ⊥) → values_at left vs s at ≡ Refused (next_fault left vs t.content) t.start
      unfolding values_at next_fault
      values-fault zero f = rw (e, q, values_at, value_then) (go (is_empty t.content))
        where
          go : (x : Bool) → ◌≡◌ {A = Reading Values} (refuse_if x 4 t.start >>= λ _. Refused 9 t.start) (Refused (if x then 4 else 9) t.start)
          go true = refl
          go false = refl
      values-fault (suc left) f =
          let z : value_fault vs t.content ≡ 0 → ⊥ = f in
          let k : value_fault vs t.content ≡ suc (value_fault vs t.content - 1) = omega arith in
          rw (e, q, k, values_at, value_then)

      values-more : (left : ℕ) → next_fault left vs t.content ≡ 0 → values_at left vs s at ≡ after (t.content ∷ []) (values_at (left - 1) vs s t.next)
      unfolding values_at next_fault after
      values-more zero f = absurd (go (is_empty t.content) f)
        where
          go : (x : Bool) → (if◌then◌else◌ {A = ℕ} x 4 9) ≡ 0 → ⊥
          go true h = omega arith
          go false h = omega arith
      values-more (suc left) f = let k : suc left - 1 ≡ left = omega arith in rw (e, q, f, k, values_at, value_then) (go (values_at left vs s t.next))
        where
          go : (x : Reading Values) → (x >>= λ more. Read (record { values = t.content ∷ more.values; next = more.next })) ≡ after (t.content ∷ []) x
          go (Read v) = refl
          go (Refused n p) = refl

pub fault-room : (left : ℕ) (vs : List Variable) (s : List ℕ) → next_fault left vs s ≡ 0 → 0 < left
unfolding next_fault
fault-room zero vs s e = absurd (go (is_empty s) e)
  where
    go : (x : Bool) → (if◌then◌else◌ {A = ℕ} x 4 9) ≡ 0 → ⊥
    go true h = omega arith
    go false h = omega arith
fault-room (suc left) vs s e = omega arith

-- the fault of the next value by the room that is left
module _ {left : ℕ} (vs : List Variable) (s : List ℕ) where
  pub fault-free : 0 < left → next_fault left vs s ≡ value_fault vs s
  unfolding next_fault
  fault-free h = let e : left ≡ suc (left - 1) = omega arith in rw (e, next_fault)

  pub fault-full-empty : left ≡ 0 → length s ≡ 0 → next_fault left vs s ≡ 4
  unfolding next_fault
  fault-full-empty e h = rw (e, next_fault, empty-yes s h)

  pub fault-full : left ≡ 0 → (length s ≡ 0 → ⊥) → next_fault left vs s ≡ 9
  unfolding next_fault
  fault-full e h = rw (e, next_fault, empty-no s h)

pub upto-start : (text old : List ℕ) (w at : ℕ) → Upto text old w at old at false
upto-start text old w at = record { values = []; added = added_none text w old; rest = sym (after_none (given_to text old w at)); some = refl }

-- what stands at p, next in the line
module _ {text old : List ℕ} {w at : ℕ} {new : List ℕ} {next : ℕ} {given : Bool} (u : Upto text old w at new next given) {p : ℕ} (i : p ≡ in_line_at text next) where
  pub upto-end : line_ends (drop p text) ≡ true → Stored text old new w (given_to text old w at) (record { given = given; next = place p })
  unfolding after
  upto-end e =
      let q : given_to text old w at ≡ Read (record { values = u.values; next = p }) =
      u.rest ∙ ap (after u.values) (values-end (variables text old w) text next (room new w) (rw (← i) e)) ∙ rw (append-nil, ← i) in
      record { values = u.values; read = q; added = u.added; some = u.some }

  module _ (r : tokens.Read) (n : seen text r ≡ token_at no_stop text p) (e : line_ends (drop p text) ≡ false) where
    pub upto-stop : wanted (seen text r) ≡ refused_by (stop_of r) → (stop : Stop) → stop ≡ stop_of r → given_to text old w at ≡ refused_by stop
    unfolding after
    upto-stop z stop q =
        let k : wanted (token_at no_stop text (in_line_at text next)) ≡ refused_by stop = rw (← i, ← n, q) z in
        u.rest ∙ ap (after u.values) (values-stop (variables text old w) text next (rw (← i) e) (room new w) stop.number stop.place.0 k)

    module _ (t : code.Token) (g : r ≡ read.Found t) (h : w < 32) where
      abbrev content : List ℕ
      content = span text t.from.0 t.end.0

      token : token_at no_stop text (in_line_at text next) ≡ Found (token_of text t)
      token = rw (← i, ← n, g) (seen-found text t)

      same-before : env text new w ≡ variables text old w
      same-before = let d : min 32 w ≡ w = omega arith in rw d (added-before text w u.added (omega arith))

      module _ (f : ℕ) (k : f ≡ next_fault (room new w) (env text new w) content) where
        fault-here : f ≡ next_fault (room new w) (variables text old w) content
        fault-here = k ∙ ap (λ (vs : List Variable). next_fault (room new w) vs content) same-before

        pub upto-fault : (f ≡ 0 → ⊥) → given_to text old w at ≡ refused_by (record { number = f; place = t.start })
        unfolding after
        upto-fault z =
            u.rest
            ∙ ap (after u.values) (values-fault (variables text old w) text next (rw (← i) e) (token_of text t) token (room new w) (λ j. z (fault-here ∙ j)))
            ∙ ap (λ (m : ℕ). Refused m t.start.0) (sym fault-here)

        module _ (z : f ≡ 0) {new' : List ℕ} (s : (length new ≡ 1120) × (new' ≡ value_set new w t.from.0 t.end.0)) where
          free : 0 < room new w
          free = fault-room (room new w) (env text new w) content (sym k ∙ z)

          more : Added text new new' w (content ∷ [])
          more = rw s.1 (value_set_lem new w t.from.0 t.end.0 s.0 h (omega (arith, free)) text)

          pub upto-less : room new' w < room new w
          upto-less = omega (arith, free, added-room text w more)

          pub upto-more : Upto text old w at new' t.next.0 true
          upto-more =
              let j : room new w - 1 ≡ room new' w = sym (added-room text w more) in
              record {
                values = u.values ++ (content ∷ []);
                added = added-both text w u.added more;
                rest =
                    u.rest
                    ∙ ap (after u.values) (values-more (variables text old w) text next (rw (← i) e) (token_of text t) token (room new w) (sym fault-here ∙ z))
                    ∙ after-after u.values (content ∷ []) (values_at (room new w - 1) (variables text old w) text t.next.0)
                    ∙ ap (λ (m : ℕ). after (u.values ++ (content ∷ [])) (values_at m (variables text old w) text t.next.0)) j;
                some = sym (ap not (ne_eqb (length (u.values ++ (content ∷ []))) 0 λ q. omega (arith, length-append u.values (content ∷ []))));
              }

-- ---- an assignment

module _ (vs : List Variable) (s n : List ℕ) (start sign : ℕ) (op : Operator) where
  abbrev judged_here : ℕ → Reading Assigned
  judged_here k = judged k start >>= λ _. after_fault vs s n sign op

  pub operator-fault : (f : ℕ) → f ≡ name_fault vs op.adds n → (f ≡ 0 → ⊥) → assigned_of vs (after_operator vs s n start sign op) ≡ Refused f start
  unfolding after_operator assigned_of
  operator-fault f e z = ap (λ (k : ℕ). assigned_of vs (judged_here k)) (sym e) ∙ go f z
    where
      go : (k : ℕ) → (k ≡ 0 → ⊥) → assigned_of vs (judged_here k) ≡ Refused k start
      go zero h = absurd (h refl)
      go (suc k) h = refl

  module _ {f : ℕ} (k : f ≡ name_fault vs op.adds n) (e : f ≡ 0) {new : List ℕ} {r : Opened} (o : Opening s new vs op.adds n r) where
    abbrev then_values : Reading Values → Reading State
    then_values x = assigned_of vs (x >>= after_values n op.adds sign)

    operator-values : assigned_of vs (after_operator vs s n start sign op) ≡ then_values (given_to s new r.w op.next)
    unfolding after_operator after_fault
    operator-values =
        let j : 16 - length (values_of vs n) ≡ room new r.w =
        ap (λ (l : List (List ℕ)). 16 - length l) o.values ∙ ap (λ (i : ℕ). 16 - i) (length-values s new r.w) in
        ap (λ (i : ℕ). assigned_of vs (judged_here i)) (sym k ∙ e)
        ∙ ap₂ (λ (i : ℕ) (us : List Variable). then_values (values_at i us s op.next)) j o.before

    pub values-refused : (stop : Stop) → given_to s new r.w op.next ≡ refused_by stop → assigned_of vs (after_operator vs s n start sign op) ≡ refused_by stop
    unfolding assigned_of
    values-refused stop q = operator-values ∙ ap then_values q

    module _ {new' : List ℕ} {v : ValuesRead} (d : Stored s new new' r.w (given_to s new r.w op.next) v) where
      pub values-none : v.given ≡ false → assigned_of vs (after_operator vs s n start sign op) ≡ Refused 4 sign
      unfolding assigned_of
      values-none g =
          let z : eqb (length d.values) 0 ≡ true = go (eqb (length d.values) 0) (sym d.some ∙ g) in
          operator-values ∙ ap then_values d.read ∙ rw z
        where
          go : (x : Bool) → not x ≡ false → x ≡ true
          go true h = refl
          go false h = absurd (false≢true (sym h))

      pub values-some : v.given ≡ true → assigned_of vs (after_operator vs s n start sign op) ≡ Read (record { variables = env s new' r.count; next = v.next.0 })
      unfolding assigned_of
      values-some g =
          let z : eqb (length d.values) 0 ≡ false = go (eqb (length d.values) 0) (sym d.some ∙ g) in
          let x : assigned vs (record { name = n; adds = op.adds; values = d.values }) ≡ env s new' r.count =
          o.result d.values
          ∙ sym (added-extended s new n new' d.values r.w d.added (min 32 r.count) (omega arith) o.number) in
          operator-values ∙ ap then_values d.read ∙ rw (z, x)
        where
          go : (x : Bool) → not x ≡ true → x ≡ false
          go true h = absurd (false≢true h)
          go false h = refl

-- an operator after a name, or none
module _ (vs : List Variable) (s n : List ℕ) (start end sign : ℕ) (o : Option OperatorRead) (e : sign ≡ in_line_at s (end + 1))
    (q : (after : ℕ) → seen_operator s after o ≡ operator_from s after sign) where
  name-operator : after_name vs s n start end ≡ (seen_operator s (end + 1) o >>= after_operator vs s n start sign)
  unfolding after_name after_operator after_fault
  name-operator = rw (← e, ← q (end + 1))

  pub name-found : (x : OperatorRead) → o ≡ Some x → after_name vs s n start end ≡ after_operator vs s n start sign (record { adds = x.adds; next = x.next.0 })
  unfolding seen_operator
  name-found x h = name-operator ∙ rw h

  pub name-missing : o ≡ None → (r : tokens.Read) → seen s r ≡ token_at no_stop s (end + 1) → assigned_of vs (after_name vs s n start end) ≡ refused_by (stop_of r)
  unfolding seen_operator assigned_of
  name-missing h r t = rw (name-operator, h, ← t, no-operator s r)

-- an assignment whose name stands after the @{ at first and to before end
module _ (vs : List Variable) (s : List ℕ) (at first end : ℕ) (p : first ≡ standing s at) (q : end ≡ first + 2 + run in_name (drop (first + 2) s)) where
  pub assignment-open : begins (code "}") (drop end s) ≡ false → assigned_of vs (assignment_at vs s at) ≡ Refused 4 first
  unfolding assignment_at assigned_of
  assignment-open b = rw (← p, ← q, b)

  module _ (b : begins (code "}") (drop end s) ≡ true) (f : ℕ) (k : f ≡ variable_fault (span s (first + 2) end)) where
    pub assignment-bad : (f ≡ 0 → ⊥) → assigned_of vs (assignment_at vs s at) ≡ Refused f (first + 2)
    unfolding assignment_at assigned_of
    assignment-bad z = let e : f ≡ suc (f - 1) = omega arith in rw (← p, ← q, b, ← k, e)

    pub assignment-good : f ≡ 0 → {x : Reading State} → x ≡ assigned_of vs (after_name vs s (span s (first + 2) end) (first + 2) end) → x ≡ assigned_of vs (assignment_at vs s at)
    unfolding assignment_at
    assignment-good z g = g ∙ rw (← p, ← q, b, ← k, z)

-- ---- the preamble

module _ (vs : List Variable) (s : List ℕ) (at : ℕ) where
  pub preamble-none : (left : ℕ) → stands_at (bytes "@{") s at ≡ false → preamble_at left vs s at ≡ Read (record { assignments = []; variables = vs; next = at })
  unfolding preamble_at
  preamble-none zero e = rw (e, preamble_at, assignment_then)
  preamble-none (suc left) e = rw (e, preamble_at, assignment_then)

  module _ (e : stands_at (bytes "@{") s at ≡ true) where
    abbrev here : Reading Assigned
    here = assignment_at vs s at

    pub preamble-refused : (left n p : ℕ) → assigned_of vs here ≡ Refused n p → preamble_of (preamble_at left vs s at) ≡ Refused n p
    unfolding assigned_of preamble_at preamble_of
    preamble-refused left n p = go here refl left
      where
        go : (x : Reading Assigned) → here ≡ x → (l : ℕ) → assigned_of vs x ≡ Refused n p → preamble_of (preamble_at l vs s at) ≡ Refused n p
        go (Read a) q l h = let z : ◌≡◌ {A = ℕ} 0 1 = cc in absurd (omega arith)
        go (Refused m r) q zero h = rw (e, q, preamble_at, assignment_then) h
        go (Refused m r) q (suc l) h = rw (e, q, preamble_at, assignment_then) h

    module _ (st : State) where
      pub preamble-full : assigned_of vs here ≡ Read st → preamble_of (preamble_at 0 vs s at) ≡ Refused 9 (standing s at)
      unfolding assigned_of preamble_at preamble_of
      preamble-full = go here refl
        where
          go : (x : Reading Assigned) → here ≡ x → assigned_of vs x ≡ Read st → preamble_of (preamble_at 0 vs s at) ≡ Refused 9 (standing s at)
          go (Read a) q h = rw (e, q, preamble_at, assignment_then)
          go (Refused m r) q h = let z : ◌≡◌ {A = ℕ} 0 1 = cc in absurd (omega arith)

      pub preamble-more : (left : ℕ) → assigned_of vs here ≡ Read st → preamble_of (preamble_at (suc left) vs s at) ≡ preamble_of (preamble_at left st.variables s st.next)
      unfolding assigned_of preamble_at preamble_of
      preamble-more left = go here refl
        where
          last : (a : Assignment) (y : Reading Preamble) →
              preamble_of (y >>= λ more. Read (record { assignments = a ∷ more.assignments; variables = more.variables; next = more.next })) ≡ preamble_of y
          last a (Read m) = refl
          last a (Refused n p) = refl

          go : (x : Reading Assigned) → here ≡ x → assigned_of vs x ≡ Read st → preamble_of (preamble_at (suc left) vs s at) ≡ preamble_of (preamble_at left st.variables s st.next)
          go (Read a) q h =
              let k : st ≡ record { variables = assigned vs a.assignment; next = a.next } = cc in
              rw (k, e, q, preamble_at, assignment_then) (last a.assignment (preamble_at left (assigned vs a.assignment) s a.next))
          go (Refused m r) q h = let z : ◌≡◌ {A = ℕ} 0 1 = cc in absurd (omega arith)

-- a turn of reading assignments, at whose end the table is t'
module _ (s t : List ℕ) (n at left : ℕ) {whole : Reading State} (inv : preamble_of (preamble_at left (env s t n) s at) ≡ whole)
    (e : stands_at (bytes "@{") s at ≡ true) (t' : List ℕ) where
  abbrev here_of : Reading State
  here_of = assigned_of (env s t n) (assignment_at (env s t n) s at)

  pub turn-refused : (stop : Stop) → seen_preamble s t' (Err stop) ≡ here_of → seen_preamble s t' (Err stop) ≡ whole
  unfolding seen_preamble
  turn-refused stop q = sym (preamble-refused (env s t n) s at e left stop.number stop.place.0 (sym q)) ∙ inv

  module _ (r : PreambleRead) (q : seen_preamble s t' (Ok r) ≡ here_of) where
    abbrev state : State
    state = record { variables = env s t' r.count; next = r.next.0 }

    pub turn-full : left ≡ 0 → {p : ℕ} → p ≡ standing s at → Refused 9 p ≡ whole
    unfolding seen_preamble
    turn-full z i = rw (i, ← preamble-full (env s t n) s at e state (sym q)) (rw z at inv)

    pub turn_more : (left ≡ 0 → ⊥) → preamble_of (preamble_at (left - 1) (env s t' r.count) s r.next.0) ≡ whole
    unfolding seen_preamble
    turn_more z =
        let k : left ≡ suc (left - 1) = omega arith in
        sym (preamble-more (env s t n) s at e state (left - 1) (sym q)) ∙ (rw k at inv)

-- the variables of a preamble are those that its assignments set
pub preamble-sets : (left : ℕ) (vs : List Variable) (s : List ℕ) (at : ℕ) (p : Preamble) → preamble_at left vs s at ≡ Read p → p.variables ≡ final_sets vs p.assignments
unfolding preamble_at final_sets
preamble-sets zero vs s at p e = go (stands_at (bytes "@{") s at) (assignment_at vs s at) e
  where
    go : (b : Bool) (x : Reading Assigned) →
        (elim b as (λ _. Reading Preamble) [ true ↦ x >>= λ a. Refused 9 (standing s at) | false ↦ Read (record { assignments = []; variables = vs; next = at }) ]) ≡ Read p →
        p.variables ≡ final_sets vs p.assignments
    go true (Read a) h = let z : ◌≡◌ {A = ℕ} 0 1 = cc in absurd (omega arith)
    go true (Refused n q) h = let z : ◌≡◌ {A = ℕ} 0 1 = cc in absurd (omega arith)
    go false x h = let k : p ≡ record { assignments = []; variables = vs; next = at } = cc in rw k
preamble-sets (suc left) vs s at p e =
    go (stands_at (bytes "@{") s at) (assignment_at vs s at) (λ a m q. preamble-sets left (assigned vs a.assignment) s a.next m q) e
  where
    last : (a : Assigned) (y : Reading Preamble) → ((m : Preamble) → y ≡ Read m → m.variables ≡ final_sets (assigned vs a.assignment) m.assignments) →
        (y >>= λ more. Read (record { assignments = a.assignment ∷ more.assignments; variables = more.variables; next = more.next })) ≡ Read p →
        p.variables ≡ final_sets vs p.assignments
    last a (Read m) f h =
        let k : p ≡ record { assignments = a.assignment ∷ m.assignments; variables = m.variables; next = m.next } = cc in
        rw k (f m refl)
    last a (Refused n q) f h = let z : ◌≡◌ {A = ℕ} 0 1 = cc in absurd (omega arith)

    go : (b : Bool) (x : Reading Assigned) →
        ((a : Assigned) (m : Preamble) → preamble_at left (assigned vs a.assignment) s a.next ≡ Read m → m.variables ≡ final_sets (assigned vs a.assignment) m.assignments) →
        (elim b as (λ _. Reading Preamble) [
          | true ↦ x >>= λ a. (preamble_at left (assigned vs a.assignment) s a.next >>= λ more. Read (record { assignments = a.assignment ∷ more.assignments; variables = more.variables; next = more.next }))
          | false ↦ Read (record { assignments = []; variables = vs; next = at })
        ]) ≡ Read p →
        p.variables ≡ final_sets vs p.assignments
    go true (Read a) f h = last a (preamble_at left (assigned vs a.assignment) s a.next) (f a) h
    go true (Refused n q) f h = let z : ◌≡◌ {A = ℕ} 0 1 = cc in absurd (omega arith)
    go false x f h = let k : p ≡ record { assignments = []; variables = vs; next = at } = cc in rw k
