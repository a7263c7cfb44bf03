-- A variable whose only assignment in a block reads another: what it holds after a run.
use mathlib.Core.Path.{◌≡◌, refl, sym, ◌∙◌, ap, subst}
use mathlib.Core.Bool.{Bool, true, false, not, cond, ◌||◌}
use Prim.Native.Nat.{ℕ}
use native.Mathlib.Omega.{arith}
use lib.Dec.{T, eqb, eqb→eq}
use lib.IntN.{ℤ, pos}
use Rattle.ints.proofs.Diffs.{cond_elim, cond_true, cond_false, both, nor}
use Rattle.rules_steps.specs.declared.Step.{Step}
use Rattle.rules_steps.specs.declared.Step.TheVariants.{Add, Grow, Shrink, Unknown}
use Rattle.rules.specs.Values.{Store, value, compares, number}
use Rattle.rules.specs.Blocks.{Test, Form, while, do_while, hold, for, Source, from, changed, off, Plain, assign, cue, Block, done, plain, pick, loop}
use Rattle.rules_steps.specs.Joins.{then, either, still}
use Rattle.rules.specs.Steps.{sets, starts, assigns, row_step, source_step, step_from, step, Sole, other, sole, behind, sole_at, sole_row, sole_of}
use Rattle.rules.specs.Trips.{own, chase, chases, keeps, limit_way, sole_way, way_of}
use Rattle.rules.specs.Ranges.{is_hold}
use Rattle.rules.specs.Questions.{known}
use Rattle.rules.specs.Expressions.{Expr, constant, variable, group, apply, meaning}
use Rattle.rules.specs.Figures.{Prices}
use Rattle.rules.specs.Run.{State, result, exec, run, bind}
use Rattle.rules.proofs.Outcomes.{Thru, went, at, thru_bind, thru_charge, thru_taken, thru_map, thru_all, thru_write, thru_pi, thru_and}
use Rattle.rules.proofs.Steps.{exec_frame, enter_frame, frame}

-- what v gets by a row that reads w: y is v's value before it, z is w's
abbrev pub given : Source → ℤ → ℤ → ℤ
given (from x) y z = z
given (changed c) y z = y
given (off w c k) y z = cond (compares c z k) (pos 0) y

-- from g to h: the row reads w as it is at the end, or as it was at the start
abbrev pub Alone : ℕ → Store → Store → Sole → Type 0
Alone v g h other = Unit {0}
Alone v g h (sole w x before after) = (T (not after) → h v ≡ given x (g v) (h w)) × (T (not before) → h v ≡ given x (g v) (g w))

-- what a part in front keeps
abbrev Keeps : (ℕ → Bool) → Store → Store → Type 0
Keeps assigned g h = (w : ℕ) → T (not (assigned w)) → h w ≡ g w

behind_alone : (assigned : ℕ → Bool) (v : ℕ) (f g h : Store) → Keeps assigned f g → (so : Sole) → Alone v g h so → Alone v f h (behind assigned v so)
unfolding behind
behind_alone assigned v f g h keeps other a = tt
behind_alone assigned v f g h keeps (sole w x before after) (a, b) =
    cond_elim (λ so. Alone v f h so) (assigned v) other _ (λ _. tt)
    (λ nv. (λ na. a na ∙ ap (λ y. given x y (h w)) (keeps v nv), λ n. let (nw, nb) = nor (assigned w) before n in b nb ∙ ap (λ y. given x y (g w)) (keeps v nv) ∙ ap (given x (f v)) (keeps w nw)))

number_is : {x y : ℤ} → number x ≡ number y → x ≡ y
number_is {x} {y} e = cc

module _ (π : Prices) where
  -- the row itself, and the rows after it
  at_alone : (i v u w : ℕ) (x : Source) (rest : Block) → T (eqb v u) → ((f : Store) → result x (f u) f ≡ number (given x (f u) (f w))) → (s : State)
      → Thru (λ t. Alone v s.store t.store (sole_at v w x rest)) (bind (exec π i (assign u x) s) (λ t. run π rest t))
  unfolding exec
  at_alone i v u w x rest h reads s =
      cond_elim (λ so. Thru (λ t. Alone v s.store t.store so) (bind (exec π i (assign u x) s) (λ t. run π rest t)))
      (eqb w v || assigns v rest) other (sole w x false (assigns w rest)) (λ _. thru_all _ (λ _. tt))
      (λ n. let (nw, nv) = nor (eqb w v) (assigns v rest) n in
      thru_bind {Q = λ t. (t.store v ≡ given x (s.store v) (s.store w)) × (t.store w ≡ s.store w)}
      (thru_charge _ i _ s _ λ m. thru_write i u _ _ λ y q _. let is : y ≡ given x (s.store u) (s.store w) = number_is (sym q ∙ reads s.store) in (
        cond_true (eqb v u) _ _ h ∙ is ∙ ap (λ z. given x (s.store z) (s.store w)) (sym (eqb→eq v u h)),
        cond_false (eqb w u) _ _ (subst (λ z. T (not (eqb w z))) (eqb→eq v u h) nw),
      ))
      (λ t (e, k). thru_map (λ r (y, z). (λ na. y ∙ e ∙ ap (given x (s.store v)) (sym (z na ∙ k)), λ _. y ∙ e))
      (thru_and (frame π rest v _ nv t refl) (thru_pi _ λ na. frame π rest w _ na t refl))))

  row_alone : (i v : ℕ) (p : Plain) (rest : Block) → T (sets v p) → (s : State) → Thru (λ t. Alone v s.store t.store (sole_row v p rest)) (bind (exec π i p s) (λ t. run π rest t))
  unfolding sole_row sets result value meaning
  row_alone i v (assign u (from (variable w))) rest h s = at_alone i v u w (from (variable w)) rest h (λ f. refl) s
  row_alone i v (assign u (from (constant k))) rest h s = thru_all _ (λ _. tt)
  row_alone i v (assign u (from (group x))) rest h s = thru_all _ (λ _. tt)
  row_alone i v (assign u (from (apply o x y))) rest h s = thru_all _ (λ _. tt)
  row_alone i v (assign u (changed c)) rest h s = thru_all _ (λ _. tt)
  row_alone i v (assign u (off w c k)) rest h s = at_alone i v u w (off w c k) rest h (λ f. refl) s
  row_alone i v (cue n) rest h s = thru_all _ (λ _. tt)

  pub alone : (v : ℕ) (b : Block) (s : State) → Thru (λ t. Alone v s.store t.store (sole_of v b)) (run π b s)
  unfolding run sole_of
  alone v done s = went tt
  alone v (plain i p rest) s =
      cond_elim (λ so. Thru (λ t. Alone v s.store t.store so) (bind (exec π i p s) (λ t. run π rest t))) (sets v p) _ _
      (λ h. row_alone i v p rest h s)
      (λ _. thru_bind {Q = λ t. Keeps (λ w. sets w p) s.store t.store}
      (thru_pi _ λ w. thru_pi _ λ n. exec_frame π i p w _ n s refl)
      (λ t k. thru_map (λ u a. behind_alone _ v _ _ u.store k (sole_of v rest) a) (alone v rest t)))
  alone v (pick i e a b rest) s =
      thru_bind {Q = λ t. Keeps (λ w. assigns w a || assigns w b) s.store t.store}
      (thru_pi _ λ w. thru_pi _ λ n. let (na, nb) = nor (assigns w a) (assigns w b) n in
      thru_charge _ i _ s _ λ m. thru_taken i s.picks _ _ _ (λ bs. frame π a w _ na (at s m bs) refl) (λ bs. frame π b w _ nb (at s m bs) refl))
      (λ t k. thru_map (λ u x. behind_alone _ v _ _ u.store k (sole_of v rest) x) (alone v rest t))
  alone v (loop i e form test body rest) s =
      thru_bind {Q = λ t. Keeps (λ w. starts w form test || assigns w body) s.store t.store}
      (thru_pi _ λ w. thru_pi _ λ n. let (ns, nb) = nor (starts w form test) (assigns w body) n in
      enter_frame π form i test (λ t. run π body t) w _ ns (λ t j. frame π body w _ nb t j) s refl)
      (λ t k. thru_map (λ u a. behind_alone _ v _ _ u.store k (sole_of v rest) a) (alone v rest t))

-- for code that walks the rows forward: no part in front, and the parts passed so far as one part in front
pub behind_none : (v : ℕ) (so : Sole) → behind (λ w. false) v so ≡ so
unfolding behind
behind_none v other = refl
behind_none v (sole w x before after) = refl

or_assoc : (a b c : Bool) → a || (b || c) ≡ (a || b) || c
or_assoc true b c = refl
or_assoc false b c = refl

pub behind_twice : (f g : ℕ → Bool) (v : ℕ) (so : Sole) → behind f v (behind g v so) ≡ behind (λ w. f w || g w) v so
unfolding behind
behind_twice f g v other = refl
behind_twice f g v (sole w x before after) =
    cond_elim (λ so. behind f v so ≡ cond (f v || g v) other (sole w x ((f w || g w) || before) after)) (g v) other _
    (λ h. sym (cond_true (f v || g v) _ _ (or_too (f v) (g v) h)))
    (λ n. by (f v) (g v) n)
  where
    or_too : (a b : Bool) → T b → T (a || b)
    or_too true b h = tt
    or_too false b h = h

    by : (p q : Bool) → T (not q) → cond p other (sole w x (f w || (g w || before)) after) ≡ cond (p || q) other (sole w x ((f w || g w) || before) after)
    by true q n = refl
    by false true n = absurd n
    by false false n = ap (λ z. sole w x z after) (or_assoc (f w) (g w) before)

-- ---- a variable whose only row reads another has no step of its own
-- what its sole row says of its step
abbrev Stepless : Sole → Step → Type 0
Stepless other st = Unit {0}
Stepless (sole w x before after) st = st ≡ Unknown

behind_stepless : (assigned : ℕ → Bool) (v : ℕ) (st : Step) (so : Sole) → Stepless so st → Stepless (behind assigned v so) st
unfolding behind
behind_stepless assigned v st other h = tt
behind_stepless assigned v st (sole w x before after) h = cond_elim (λ so. Stepless so st) (assigned v) other _ (λ _. tt) (λ _. h)

then_unknown : (st : Step) → then st Unknown ≡ Unknown
unfolding then
then_unknown (Add a b) = refl
then_unknown (Grow f g) = refl
then_unknown (Shrink f g) = refl
then_unknown Unknown = refl

from_unknown : (v : ℕ) (b : Block) → step_from Unknown v b ≡ Unknown
unfolding step_from then
from_unknown v done = refl
from_unknown v (plain i p rest) = from_unknown v rest
from_unknown v (pick i e a b rest) = from_unknown v rest
from_unknown v (loop i e form test body rest) = from_unknown v rest

at_stepless : (acc : Step) (v u w : ℕ) (x : Source) (rest : Block) → T (eqb v u) → Stepless (sole_at v w x rest) (step_from (then acc (cond (eqb v u) Unknown still)) v rest)
at_stepless acc v u w x rest h =
    cond_elim (λ so. Stepless so (step_from (then acc (cond (eqb v u) Unknown still)) v rest)) (eqb w v || assigns v rest) other _ (λ _. tt)
    (λ _. rw (cond_true (eqb v u) Unknown still h, then_unknown acc) (from_unknown v rest))

row_stepless : (acc : Step) (v : ℕ) (p : Plain) (rest : Block) → T (sets v p) → Stepless (sole_row v p rest) (step_from (then acc (row_step v p)) v rest)
unfolding sole_row sets row_step source_step
row_stepless acc v (assign u (from (variable w))) rest h = at_stepless acc v u w (from (variable w)) rest h
row_stepless acc v (assign u (from (constant k))) rest h = tt
row_stepless acc v (assign u (from (group x))) rest h = tt
row_stepless acc v (assign u (from (apply o x y))) rest h = tt
row_stepless acc v (assign u (changed c)) rest h = tt
row_stepless acc v (assign u (off w c k)) rest h = at_stepless acc v u w (off w c k) rest h
row_stepless acc v (cue n) rest h = tt

stepless : (acc : Step) (v : ℕ) (b : Block) → Stepless (sole_of v b) (step_from acc v b)
unfolding sole_of step_from
stepless acc v done = tt
stepless acc v (plain i p rest) =
    cond_elim (λ so. Stepless so (step_from (then acc (row_step v p)) v rest)) (sets v p) _ _
    (λ h. row_stepless acc v p rest h) (λ _. behind_stepless _ v _ (sole_of v rest) (stepless (then acc (row_step v p)) v rest))
stepless acc v (pick i e a b rest) =
    behind_stepless _ v _ (sole_of v rest) (stepless (then acc (either (step_from still v a) (step_from still v b))) v rest)
stepless acc v (loop i e form test body rest) =
    behind_stepless _ v _ (sole_of v rest) (stepless (then acc (cond (starts v form test || assigns v body) Unknown still)) v rest)

-- so a loop whose tested variable's own step is known goes by its limit: code looks for the sole copy only if that step is Unknown
pub known_limit : (form : Form) (test : Test) (body : Block) → T (not (is_hold form)) → known (step test.tested body) ≡ true → limit_way test body test.limit ≡ way_of form test body
unfolding sole_way way_of known
known_limit form test body u k = by_form form u
  where
    by : (so : Sole) (st : Step) → Stepless so st → known st ≡ true → limit_way test body test.limit ≡ sole_way test body so
    by other st h k = refl
    by (sole w x before after) st h k = let z : true ≡ false = sym k ∙ ap known h in cc

    by_form : (f : Form) → T (not (is_hold f)) → limit_way test body test.limit ≡ way_of f test body
    by_form while u = by (sole_of test.tested body) _ (stepless _ test.tested body) k
    by_form do_while u = by (sole_of test.tested body) _ (stepless _ test.tested body) k
    by_form hold u = absurd u
    by_form (for x) u = refl

-- and its own way, if question 10 has yes of that limit: code looks for the limit's step only if the body assigns it
pub known_own : (form : Form) (test : Test) (body : Block) → T (not (is_hold form)) → known (step test.tested body) ≡ true → keeps test.limit body ≡ true → own ≡ way_of form test body
unfolding limit_way keeps
known_own form test body u k kept = by test.limit kept ∙ known_limit form test body u k
  where
    not_both : (b : Bool) → T b → not b ≡ true → ⊥
    not_both true h n = let z : ◌≡◌ {A = ℕ} 0 1 = cc in omega arith
    not_both false h n = h

    by : (o : Expr) → keeps o body ≡ true → own ≡ limit_way test body o
    by (constant k) n = refl
    by (variable w) n =
        cond_elim (λ way. own ≡ way) (chases test body w) (chase w) own
        (λ h. let (_, h₁) = both (not (eqb w test.tested)) _ h in absurd (not_both (assigns w body) (both (assigns w body) _ h₁).0 n)) (λ _. refl)
    by (group x) n = refl
    by (apply o x y) n = refl
