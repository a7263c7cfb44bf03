-- Which kind a loop is of, by the documents' terms.
use mathlib.Core.Path.{◌≡◌, refl, sym, ◌∙◌, ap, subst}
use mathlib.Core.Bool.{Bool, true, false, not, cond, ◌&&◌, ◌||◌}
use Prim.Native.Nat.{ℕ}
use lib.Dec.{T, T_not, eqb, eqb→eq, eqb_refl}
use lib.IntN.{ℤ}
use Rattle.ints.proofs.Diffs.{cond_elim, cond_true, cond_false, both, nor, and_in}
use Rattle.rules.specs.declared.Comparison.{Comparison}
use Rattle.rules_steps.specs.declared.Step.{Step}
use Rattle.rules_steps.specs.declared.Step.TheVariants.{Add, Grow, Shrink, Unknown}
use Rattle.rules_steps.specs.Joins.{still, then}
use Rattle.rules.specs.Expressions.{Expr, constant, variable, group, apply}
use Rattle.rules.specs.Values.{opposite}
use Rattle.rules.specs.Blocks.{Source, from, changed, off, Plain, assign, cue, Test, Form, while, do_while, hold, for, Block, done, plain, pick, loop}
use Rattle.rules.specs.Steps.{sets, starts, assigns, row_step, source_step, step_from, step, is_add, moving, Sole, other, sole, behind, sole_row, sole_of}
use Rattle.rules.specs.Ranges.{Env, ordered, sort, Sort, rising, falling, same, differ}
use Rattle.rules.specs.Trips.{Way, own, broken, copied, chase, watched, way_of, limit_way, sole_way, hold_way, chases, copies, toward, trip_by, inner_of, outer_of, loop_env}
use Rattle.rules.specs.Yes.{Fitting}
use Rattle.rules.specs.LoopKinds.{onto, Only, IsWhileOrDo, NotHold, IsHold, CopyTerms, ChaseTerms, HoldTerms, KindsExact, inner_by, outer_by, RangesByKind}
use Rattle.rules.proofs.Yes.{moves_yes, yes_moves, fitting_yes, yes_fitting}

-- a row that reads w alone into v
data Reads (w : ℕ) : Source → Type 0 where
  copies_it : Reads w (from (variable w))
  watches_it : {c : Comparison} {k : ℤ} → Reads w (off w c k)

or_false : (a b : Bool) → T (not a) → T (not b) → T (not (a || b))
or_false true b h k = h
or_false false b h k = k

eqb_not : (w v : ℕ) → (w ≡ v → ⊥) → T (not (eqb w v))
eqb_not w v f = by (eqb w v) (eqb→eq w v)
  where
    by : (b : Bool) → (T b → w ≡ v) → T (not b)
    by true g = f (g tt)
    by false g = tt

not_eqb : (w v : ℕ) → T (not (eqb w v)) → w ≡ v → ⊥
not_eqb w v h e = T_not (eqb w v) h (subst (λ z. T (eqb w z)) e (eqb_refl w))

-- ---- from the terms to what is found
module _ (v w : ℕ) (x : Source) (row : ℕ) (after : Block) (reads : Reads w x) (another : w ≡ v → ⊥) (not_after : T (not (assigns v after))) where
  found_here : {y : Source} → Reads w y → sole_of v (plain row (assign v y) after) ≡ sole w y false (assigns w after)
  unfolding sole_of sole_row sets
  found_here copies_it = cond_true (eqb v v) _ _ (eqb_refl v) ∙ cond_false (eqb w v || assigns v after) _ _ (or_false (eqb w v) (assigns v after) (eqb_not w v another) not_after)
  found_here watches_it = cond_true (eqb v v) _ _ (eqb_refl v) ∙ cond_false (eqb w v || assigns v after) _ _ (or_false (eqb w v) (assigns v after) (eqb_not w v another) not_after)

  found : (before : Block) → T (not (assigns v before)) → sole_of v (onto before (plain row (assign v x) after)) ≡ sole w x (assigns w before) (assigns w after)
  unfolding onto sole_of assigns behind
  found done h = found_here reads
  found (plain i p rest) h =
      let (a, b) = nor (sets v p) (assigns v rest) h in
      cond_false (sets v p) _ _ a ∙ ap (behind (λ u. sets u p) v) (found rest b) ∙ cond_false (sets v p) _ _ a
  found (pick i e y z rest) h =
      let (a, b) = nor (assigns v y || assigns v z) (assigns v rest) h in
      ap (behind (λ u. assigns u y || assigns u z) v) (found rest b) ∙ cond_false (assigns v y || assigns v z) _ _ a
  found (loop i e form test body rest) h =
      let (a, b) = nor (starts v form test || assigns v body) (assigns v rest) h in
      ap (behind (λ u. starts u form test || assigns u body) v) (found rest b) ∙ cond_false (starts v form test || assigns v body) _ _ a

-- ---- from what is found to the terms
record FoundOnly (v w : ℕ) (x : Source) (bf af : Bool) (body : Block) : Type 0 where
  only : Only v x body
  reads : Reads w x
  another : w ≡ v → ⊥
  is_before : assigns w only.before ≡ bf
  is_after : assigns w only.after ≡ af

abbrev Found : ℕ → Block → Sole → Type 0
Found v body other = Unit {0}
Found v body (sole w x bf af) = FoundOnly v w x bf af body

behind_found : (v : ℕ) (assigned : ℕ → Bool) (front : Block → Block) (body : Block) → ((u : ℕ) (b : Block) → assigns u (front b) ≡ assigned u || assigns u b)
    → ((b c : Block) → onto (front b) c ≡ front (onto b c)) → (s : Sole) → Found v body s → Found v (front body) (behind assigned v s)
unfolding behind
behind_found v assigned front body as-front on-front other f = tt
behind_found v assigned front body as-front on-front (sole w x bf af) f =
    cond_elim (Found v (front body)) (assigned v) other (sole w x (assigned w || bf) af) (λ _. tt)
    (λ t. record {
      only = record {
        before = front f.only.before;
        row = f.only.row;
        after = f.only.after;
        is = ap front f.only.is ∙ sym (on-front f.only.before _);
        not_before = subst (λ z. T (not z)) (sym (as-front v f.only.before)) (or_false (assigned v) _ t f.only.not_before);
        not_after = f.only.not_after;
      };
      reads = f.reads;
      another = f.another;
      is_before = as-front w f.only.before ∙ ap (λ z. assigned w || z) f.is_before;
      is_after = f.is_after;
    })

here_found : (v u w i : ℕ) (x : Source) (rest : Block) → Reads w x → v ≡ u → Found v (plain i (assign u x) rest) (cond (eqb w v || assigns v rest) other (sole w x false (assigns w rest)))
unfolding onto assigns
here_found v u w i x rest reads e =
    cond_elim (Found v (plain i (assign u x) rest)) (eqb w v || assigns v rest) other (sole w x false (assigns w rest)) (λ _. tt)
    (λ t. let (a, b) = nor (eqb w v) (assigns v rest) t in
    record {
      only = record { before = done; row = i; after = rest; is = ap (λ z. plain i (assign z x) rest) (sym e); not_before = tt; not_after = b };
      reads = reads;
      another = not_eqb w v a;
      is_before = refl;
      is_after = refl;
    })

row_found : (v i : ℕ) (p : Plain) (rest : Block) → T (sets v p) → Found v (plain i p rest) (sole_row v p rest)
unfolding sole_row sets
row_found v i (assign u (from (variable w))) rest t = here_found v u w i (from (variable w)) rest copies_it (eqb→eq v u t)
row_found v i (assign u (from (constant k))) rest t = tt
row_found v i (assign u (from (group x))) rest t = tt
row_found v i (assign u (from (apply o x y))) rest t = tt
row_found v i (assign u (changed c)) rest t = tt
row_found v i (assign u (off w c k)) rest t = here_found v u w i (off w c k) rest watches_it (eqb→eq v u t)
row_found v i (cue n) rest t = tt

sole_found : (v : ℕ) (body : Block) → Found v body (sole_of v body)
unfolding sole_of onto assigns
sole_found v done = tt
sole_found v (plain i p rest) =
    cond_elim (Found v (plain i p rest)) (sets v p) (sole_row v p rest) (behind (λ w. sets w p) v (sole_of v rest)) (λ t. row_found v i p rest t)
    (λ _. behind_found v (λ w. sets w p) (plain i p) rest (λ u b. refl) (λ b c. refl) (sole_of v rest) (sole_found v rest))
sole_found v (pick i e a b rest) = behind_found v (λ w. assigns w a || assigns w b) (pick i e a b) rest (λ u c. refl) (λ c d. refl) (sole_of v rest) (sole_found v rest)
sole_found v (loop i e form test body rest) =
    behind_found v (λ w. starts w form test || assigns w body) (loop i e form test body) rest (λ u c. refl) (λ c d. refl) (sole_of v rest) (sole_found v rest)

-- ---- a sole row of these makes the step Unknown
unknown_on : (b : Block) (v : ℕ) → step_from Unknown v b ≡ Unknown
unfolding step_from then
unknown_on done v = refl
unknown_on (plain i p rest) v = unknown_on rest v
unknown_on (pick i e a b rest) v = unknown_on rest v
unknown_on (loop i e form test body rest) v = unknown_on rest v

then_unknown : (st : Step) → then st Unknown ≡ Unknown
unfolding then
then_unknown (Add a b) = refl
then_unknown (Grow f g) = refl
then_unknown (Shrink f g) = refl
then_unknown Unknown = refl

reads_unknown : {w : ℕ} {x : Source} → Reads w x → source_step x ≡ Unknown
unfolding source_step
reads_unknown copies_it = refl
reads_unknown watches_it = refl

onto_unknown : (before : Block) (acc : Step) (v row : ℕ) (x : Source) (after : Block) → source_step x ≡ Unknown → step_from acc v (onto before (plain row (assign v x) after)) ≡ Unknown
unfolding step_from onto row_step
onto_unknown done acc v row x after e =
    ap (λ st. step_from (then acc st) v after) (cond_true (eqb v v) (source_step x) still (eqb_refl v) ∙ e) ∙ ap (λ st. step_from st v after) (then_unknown acc) ∙ unknown_on after v
onto_unknown (plain i p rest) acc v row x after e = onto_unknown rest _ v row x after e
onto_unknown (pick i j a b rest) acc v row x after e = onto_unknown rest _ v row x after e
onto_unknown (loop i j form test body rest) acc v row x after e = onto_unknown rest _ v row x after e

found_unknown : (v w : ℕ) (x : Source) (bf af : Bool) (body : Block) → FoundOnly v w x bf af body → step v body ≡ Unknown
found_unknown v w x bf af body f = ap (step v) f.only.is ∙ onto_unknown f.only.before still v f.only.row x f.only.after (reads_unknown f.reads)

-- ---- the kinds
from_is : {w : ℕ} {x : Expr} → Reads w (from x) → x ≡ variable w
from_is copies_it = refl

off_is : {w u : ℕ} {c : Comparison} {k : ℤ} → Reads w (off u c k) → u ≡ w
off_is watches_it = refl

abbrev WayTerms : Form → Test → Block → Way → Type 0
WayTerms form test body own = Unit {0}
WayTerms form test body broken = Unit {0}
WayTerms form test body (copied w ahead) = CopyTerms form test body w ahead
WayTerms form test body (chase w) = ChaseTerms form test body w
WayTerms form test body (watched w c k ahead) = HoldTerms form test body w c k ahead

limit_terms : (form : Form) (test : Test) (body : Block) (x : Expr) → NotHold form → test.limit ≡ x → WayTerms form test body (limit_way test body x)
unfolding limit_way
limit_terms form test body (constant k) n e = tt
limit_terms form test body (group x) n e = tt
limit_terms form test body (apply o x y) n e = tt
limit_terms form test body (variable w) n e =
    cond_elim (WayTerms form test body) (chases test body w) (chase w) own
    (λ h. let (a, h₁) = both (not (eqb w test.tested)) _ h in
    let (b, h₂) = both (assigns w body) _ h₁ in
    let (c, h₃) = both (is_add (step w body)) _ h₂ in
    let (d, f) = both (is_add (step test.tested body)) _ h₃ in
    record { kind = n; limit = e; another = not_eqb w test.tested a; assigned = b; adds = c; own_adds = d; compared = f }) (λ _. tt)

sole_terms : (form : Form) (test : Test) (body : Block) (s : Sole) → IsWhileOrDo form → NotHold form → Found test.tested body s → WayTerms form test body (sole_way test body s)
unfolding sole_way
sole_terms form test body other k n f = limit_terms form test body test.limit n refl
sole_terms form test body (sole w (changed d) bf af) k n f = tt
sole_terms form test body (sole w (off u c z) bf af) k n f = tt
sole_terms form test body (sole w (from x) bf af) k n f =
    cond_elim (WayTerms form test body) (copies test body w bf af) (copied w bf) own
    (λ h. let (a, h₁) = both (not (bf && af)) _ h in
    let (b, h₂) = both (is_add (step w body)) _ h₁ in
    let (c, d) = both (moving (step w body)) _ h₂ in
    let g : FoundOnly test.tested w (from (variable w)) bf af body = subst (λ y. FoundOnly test.tested w (from y) bf af body) (from_is f.reads) f in
    record {
      kind = k;
      only = g.only;
      another = g.another;
      adds = b;
      moves = moves_yes (step w body) c;
      one_side = subst (λ y. T (not (assigns w g.only.before && y))) (sym g.is_after) (subst (λ y. T (not (y && af))) (sym g.is_before) a);
      compared = d;
      first = g.is_before;
    }) (λ _. tt)

toward_terms : (st : Step) (d : Sort) → T (toward st d) → T (ordered d) × T (is_add st) × Fitting st d
unfolding toward
toward_terms st rising h = let (a, b) = both (is_add st) _ h in (tt, a, fitting_yes st rising b)
toward_terms st falling h = let (a, b) = both (is_add st) _ h in (tt, a, fitting_yes st falling b)
toward_terms st same h = absurd h
toward_terms st differ h = absurd h

terms_toward : (st : Step) (d : Sort) → T (ordered d) → T (is_add st) → Fitting st d → T (toward st d)
unfolding toward
terms_toward st rising o a f = and_in (is_add st) _ a (yes_fitting st rising f)
terms_toward st falling o a f = and_in (is_add st) _ a (yes_fitting st falling f)
terms_toward st same o a f = absurd o
terms_toward st differ o a f = absurd o

hold_terms : (test : Test) (body : Block) (s : Sole) → Found test.tested body s → WayTerms hold test body (hold_way body s)
unfolding hold_way
hold_terms test body other f = tt
hold_terms test body (sole w (from x) bf af) f = tt
hold_terms test body (sole w (changed d) bf af) f = tt
hold_terms test body (sole w (off u c k) bf af) f =
    cond_elim (WayTerms hold test body) (not (bf && af) && toward (step w body) (sort (opposite c))) (watched w c k bf) broken
    (λ h. let (a, b) = both (not (bf && af)) _ h in
    let (o, d, t) = toward_terms (step w body) (sort (opposite c)) b in
    let g : FoundOnly test.tested w (off w c k) bf af body = subst (λ y. FoundOnly test.tested w (off y c k) bf af body) (off_is f.reads) f in
    record {
      kind = tt;
      only = g.only;
      another = g.another;
      compared = o;
      adds = d;
      toward = t;
      one_side = subst (λ y. T (not (assigns w g.only.before && y))) (sym g.is_after) (subst (λ y. T (not (y && af))) (sym g.is_before) a);
      first = g.is_before;
    }) (λ _. tt)

way_terms : (form : Form) (test : Test) (body : Block) → WayTerms form test body (way_of form test body)
unfolding way_of
way_terms while test body = sole_terms while test body _ tt tt (sole_found test.tested body)
way_terms do_while test body = sole_terms do_while test body _ tt tt (sole_found test.tested body)
way_terms hold test body = hold_terms test body _ (sole_found test.tested body)
way_terms (for x) test body = limit_terms (for x) test body test.limit tt refl

-- ---- and back
copy_on : (test : Test) (body : Block) (w : ℕ) (bf af : Bool) → T (not (bf && af)) → T (is_add (step w body)) → T (moving (step w body)) → T (ordered (sort test.comparison))
    → sole_way test body (sole w (from (variable w)) bf af) ≡ copied w bf
unfolding sole_way
copy_on test body w bf af a b c d =
    cond_true (copies test body w bf af) (copied w bf) own
    (and_in (not (bf && af)) _ a (and_in (is_add (step w body)) _ b (and_in (moving (step w body)) _ c d)))

copy_way : (form : Form) (test : Test) (body : Block) (w : ℕ) (ahead : Bool) → CopyTerms form test body w ahead → way_of form test body ≡ copied w ahead
unfolding way_of
copy_way form test body w ahead c = by form c.kind
  where
    o : Only test.tested (from (variable w)) body
    o = c.only

    sole_is_lem : sole_of test.tested body ≡ sole w (from (variable w)) (assigns w o.before) (assigns w o.after)
    sole_is_lem = ap (sole_of test.tested) o.is ∙ found test.tested w (from (variable w)) o.row o.after copies_it c.another o.not_after o.before o.not_before

    way_is_lem : sole_way test body (sole_of test.tested body) ≡ copied w ahead
    way_is_lem = ap (sole_way test body) sole_is_lem ∙ copy_on test body w _ _ c.one_side c.adds (yes_moves _ c.moves) c.compared ∙ ap (copied w) c.first

    by : (form : Form) → IsWhileOrDo form → way_of form test body ≡ copied w ahead
    by while k = way_is_lem
    by do_while k = way_is_lem
    by hold k = absurd k
    by (for x) k = absurd k

hold_on : (body : Block) (w : ℕ) (c : Comparison) (k : ℤ) (bf af : Bool) → T (not (bf && af)) → T (toward (step w body) (sort (opposite c))) → hold_way body (sole w (off w c k) bf af) ≡ watched w c k bf
unfolding hold_way
hold_on body w c k bf af a t = cond_true (not (bf && af) && toward (step w body) (sort (opposite c))) _ _ (and_in (not (bf && af)) _ a t)

hold_way_lem : (form : Form) (test : Test) (body : Block) (w : ℕ) (c : Comparison) (k : ℤ) (ahead : Bool) → HoldTerms form test body w c k ahead → way_of form test body ≡ watched w c k ahead
unfolding way_of
hold_way_lem form test body w c k ahead h = by form h.kind
  where
    o : Only test.tested (off w c k) body
    o = h.only

    sole_is_lem : sole_of test.tested body ≡ sole w (off w c k) (assigns w o.before) (assigns w o.after)
    sole_is_lem = ap (sole_of test.tested) o.is ∙ found test.tested w (off w c k) o.row o.after watches_it h.another o.not_after o.before o.not_before

    by : (form : Form) → IsHold form → way_of form test body ≡ watched w c k ahead
    by while z = absurd z
    by do_while z = absurd z
    by hold z = ap (hold_way body) sole_is_lem ∙ hold_on body w c k _ _ h.one_side (terms_toward (step w body) (sort (opposite c)) h.compared h.adds h.toward) ∙ ap (λ z. watched w c k z) h.first
    by (for x) z = absurd z

not_unknown : {A : Type 0} (st : Step) → T (is_add st) → st ≡ Unknown → A
unfolding is_add
not_unknown st h e = absurd (subst (λ z. T (is_add z)) e h)

chase_on : (test : Test) (body : Block) (w : ℕ) (x : Expr) → x ≡ variable w → T (chases test body w) → limit_way test body x ≡ chase w
unfolding limit_way
chase_on test body w x e h = ap (limit_way test body) e ∙ cond_true (chases test body w) _ _ h

chase_way : (form : Form) (test : Test) (body : Block) (w : ℕ) → ChaseTerms form test body w → way_of form test body ≡ chase w
unfolding way_of sole_way
chase_way form test body w c = by form c.kind
  where
    terms : T (chases test body w)
    terms = and_in (not (eqb w test.tested)) _ (eqb_not w test.tested c.another) (and_in (assigns w body) _ c.assigned (and_in (is_add (step w body)) _ c.adds (and_in (is_add (step test.tested body)) _ c.own_adds c.compared)))

    limit_is : limit_way test body test.limit ≡ chase w
    limit_is = chase_on test body w test.limit c.limit terms

    sole_is_lem : (s : Sole) → Found test.tested body s → sole_way test body s ≡ chase w
    sole_is_lem other f = limit_is
    sole_is_lem (sole u x bf af) f = not_unknown (step test.tested body) c.own_adds (found_unknown test.tested u x bf af body f)

    by : (form : Form) → NotHold form → way_of form test body ≡ chase w
    by while k = sole_is_lem (sole_of test.tested body) (sole_found test.tested body)
    by do_while k = sole_is_lem (sole_of test.tested body) (sole_found test.tested body)
    by hold k = absurd k
    by (for x) k = limit_is

pub kinds_exact : KindsExact
unfolding KindsExact
kinds_exact form test body w = (
  λ ahead. (λ e. subst (WayTerms form test body) e (way_terms form test body), copy_way form test body w ahead),
  (λ e. subst (WayTerms form test body) e (way_terms form test body), chase_way form test body w),
  λ c k ahead. (λ e. subst (WayTerms form test body) e (way_terms form test body), hold_way_lem form test body w c k ahead),
)

-- a hold is of no base kind, and only a hold breaks terms
abbrev Suited : Form → Way → Type 0
Suited form own = NotHold form
Suited form broken = IsHold form
Suited form (copied w ahead) = Unit {0}
Suited form (chase w) = Unit {0}
Suited form (watched w c k ahead) = Unit {0}

limit_suited : (form : Form) (test : Test) (body : Block) (x : Expr) → NotHold form → Suited form (limit_way test body x)
unfolding limit_way
limit_suited form test body (constant k) n = n
limit_suited form test body (group x) n = n
limit_suited form test body (apply o x y) n = n
limit_suited form test body (variable w) n = cond_elim (Suited form) (chases test body w) (chase w) own (λ _. tt) (λ _. n)

sole_suited : (form : Form) (test : Test) (body : Block) (s : Sole) → NotHold form → Suited form (sole_way test body s)
unfolding sole_way
sole_suited form test body other n = limit_suited form test body test.limit n
sole_suited form test body (sole w (from x) bf af) n = cond_elim (Suited form) (copies test body w bf af) (copied w bf) own (λ _. tt) (λ _. n)
sole_suited form test body (sole w (changed d) bf af) n = n
sole_suited form test body (sole w (off u c k) bf af) n = n

hold_suited : (body : Block) (s : Sole) → Suited hold (hold_way body s)
unfolding hold_way
hold_suited body other = tt
hold_suited body (sole w (from x) bf af) = tt
hold_suited body (sole w (changed d) bf af) = tt
hold_suited body (sole w (off u c k) bf af) = cond_elim (Suited hold) (not (bf && af) && toward (step w body) (sort (opposite c))) (watched w c k bf) broken (λ _. tt) (λ _. tt)

way_suited : (form : Form) (test : Test) (body : Block) → Suited form (way_of form test body)
unfolding way_of
way_suited while test body = sole_suited while test body _ tt
way_suited do_while test body = sole_suited do_while test body _ tt
way_suited hold test body = hold_suited body _
way_suited (for x) test body = limit_suited (for x) test body _ tt

pub own_not_hold : (form : Form) (test : Test) (body : Block) → way_of form test body ≡ own → NotHold form
own_not_hold form test body e = subst (Suited form) e (way_suited form test body)

pub broken_hold : (form : Form) (test : Test) (body : Block) → way_of form test body ≡ broken → IsHold form
broken_hold form test body e = subst (Suited form) e (way_suited form test body)

pub never_both : {A : Type 0} (form : Form) → NotHold form → IsHold form → A
never_both while n h = absurd h
never_both do_while n h = absurd h
never_both hold n h = absurd n
never_both (for x) n h = absurd h

-- ---- the ranges
inner_by_lem : (form : Form) (ρ : Env) (test : Test) (body : Block) (way : Way) → inner_of (trip_by way form ρ test body) ≡ inner_by way form ρ test
unfolding trip_by inner_of
inner_by_lem form ρ test body own = refl
inner_by_lem form ρ test body broken = refl
inner_by_lem form ρ test body (copied w ahead) = refl
inner_by_lem form ρ test body (chase w) = refl
inner_by_lem form ρ test body (watched w c k ahead) = refl

outer_by_lem : (form : Form) (ρ : Env) (test : Test) (body : Block) (way : Way) → outer_of (trip_by way form ρ test body) ≡ outer_by way ρ test body
unfolding trip_by outer_of
outer_by_lem form ρ test body own = refl
outer_by_lem form ρ test body broken = refl
outer_by_lem form ρ test body (copied w ahead) = refl
outer_by_lem form ρ test body (chase w) = refl
outer_by_lem form ρ test body (watched w c k ahead) = refl

pub ranges_by_kind : RangesByKind
unfolding RangesByKind
ranges_by_kind form ρ test body = (
  ap (λ r. loop_env r ρ test body) (inner_by_lem form ρ test body (way_of form test body)),
  ap (λ r. loop_env r ρ test body) (outer_by_lem form ρ test body (way_of form test body)),
)
