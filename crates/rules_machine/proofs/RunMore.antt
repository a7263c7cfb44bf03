-- Pause and resume: with d more ticks a run does the same, as long as it is not spent. So what one allowance left undone, a larger one goes on with.
use mathlib.Core.Path.{◌≡◌, sym, subst, ◌∙◌, ap}
use mathlib.Core.Bool.{Bool, true, false}
use mathlib.Core.List.{List, [], ◌∷◌}
use Prim.Native.Nat.{ℕ, zero, suc, ◌+◌, ◌-◌, ◌≤◌}
use native.Mathlib.Omega.{arith}
use lib.Dec.{T, leb, eqb, leb→le, le→leb}
use lib.ListN.{length}
use Rattle.rules.specs.declared.Ending.{Ending}
use Rattle.rules.specs.declared.Ending.TheVariants.{Ended, Spent}
use Rattle.rules.proofs.Outcomes.{decide_both}
use Rattle.rules.specs.Values.{Store, in_limits, Result, number, past}
use Rattle.rules.specs.Blocks.{Plain, assign, cue, Test, Form, while, do_while, for, Block, done, plain, pick, loop, hold}
use Rattle.rules.specs.declared.Prices.{Prices}
use Rattle.rules.specs.Run.{State, Entry, Out, go, halt, prepend, bind, closing, choose, charge, write, exec, taken, holds, iter, starting, turning, enter, run}
use Rattle.rules.specs.Answers.{answer_of, answer, run_tree}
use Rattle.rules.specs.Claim.{Unspent}

module _ (d : ℕ) where
  -- d more ticks
  abbrev pub plus : State → State
  plus s = record { store = s.store; left = s.left + d; picks = s.picks }

  -- the same outcome with d more ticks; nothing is said of a spent one
  pub data Alike : Out → Out → Type 0 where
    same_go : {s : State} {es : List Entry} → Alike (go s es) (go (plus s) es)
    same_halt : {e : Ending} {i : ℕ} {s : State} {es : List Entry} → Alike (halt e i s es) (halt e i (plus s) es)
    was_spent : {i : ℕ} {s : State} {es : List Entry} {o : Out} → Alike (halt Spent i s es) o

  -- a price that fits still fits, and leaves d more
  pub fits_more : (c l : ℕ) → T (leb c l) → T (leb c (l + d))
  fits_more c l h = le→leb c (l + d) (omega (arith, leb→le c l h))

  pub less_more : (c l : ℕ) → T (leb c l) → l + d - c ≡ l - c + d
  less_more c l h = omega (arith, leb→le c l h)

  -- a law for each former of `Out`
  alike_prepend : (es : List Entry) {x y : Out} → Alike x y → Alike (prepend es x) (prepend es y)
  unfolding prepend
  alike_prepend es same_go = same_go
  alike_prepend es same_halt = same_halt
  alike_prepend es was_spent = was_spent

  alike_bind : {x y : Out} {k : State → Out} (l : State → Out) → Alike x y → ((t : State) → Alike (k t) (l (plus t))) → Alike (bind x k) (bind y l)
  unfolding bind
  alike_bind l (same_go {s = s} {es = es}) f = alike_prepend es (f s)
  alike_bind l same_halt f = same_halt
  alike_bind l was_spent f = was_spent

  alike_closing : (fs : List Entry) {x y : Out} → Alike x y → Alike (closing fs x) (closing fs y)
  unfolding closing
  alike_closing fs same_go = same_go
  alike_closing fs same_halt = same_halt
  alike_closing fs was_spent = was_spent

  alike_choose : (b : Bool) {x y u v : Out} → Alike x u → Alike y v → Alike (choose b x y) (choose b u v)
  unfolding choose
  alike_choose true h k = h
  alike_choose false h k = k

  alike_charge : (c i : ℕ) (es : List Entry) (s : State) (k l : State → Out) → ((t : State) → Alike (k t) (l (plus t))) → Alike (charge c i es s k) (charge c i es (plus s) l)
  unfolding charge choose
  alike_charge c i es s k l f = by (leb c s.left) (leb c (s.left + d)) (fits_more c s.left) (less_more c s.left)
    where
      by : (a b : Bool) → (T a → T b) → (T a → s.left + d - c ≡ s.left - c + d)
          → Alike (choose a (k (record { store = s.store; left = s.left - c; picks = s.picks })) (halt Spent i s es))
          (choose b (l (record { store = s.store; left = s.left + d - c; picks = s.picks })) (halt Spent i (plus s) es))
      by true true g e = subst (λ n. Alike (k (record { store = s.store; left = s.left - c; picks = s.picks })) (l (record { store = s.store; left = n; picks = s.picks }))) (sym (e tt)) (f _)
      by true false g e = absurd (g tt)
      by false b g e = was_spent

  alike_write : (i v : ℕ) (r : Result) (s : State) → Alike (write i v r s) (write i v r (plus s))
  unfolding write
  alike_write i v (number x) s = alike_choose (in_limits x) same_go same_halt
  alike_write i v past s = same_halt

  alike_taken : (i : ℕ) (bs : List ℕ) (s : State) (f g : State → Out) → ((t : State) → Alike (f t) (f (plus t))) → ((t : State) → Alike (g t) (g (plus t)))
      → Alike (taken i bs s f g) (taken i bs (plus s) f g)
  unfolding taken
  alike_taken i [] s f g hf hg = same_halt
  alike_taken i (b ∷ bs) s f g hf hg = alike_choose (eqb b 0) (hg _) (hf _)

  module _ (π : Prices) where
    pub alike_exec : (i : ℕ) (p : Plain) (s : State) → Alike (exec π i p s) (exec π i p (plus s))
    unfolding exec
    alike_exec i (assign v x) s = alike_charge _ i _ s _ _ λ t. alike_write i v _ t
    alike_exec i (cue n) s = alike_charge _ i _ s _ _ λ t. same_go

    module _ (i : ℕ) (test : Test) (body : State → Out) (ih : (s : State) → Alike (body s) (body (plus s))) where
      -- more ticks have more fuel
      alike_iter : (fuel fuel' k : ℕ) (s : State) → fuel ≤ fuel' → Alike (iter π i test body fuel k s) (iter π i test body fuel' k (plus s))
      unfolding iter
      alike_iter zero fuel' k s h = was_spent
      alike_iter (suc fuel) zero k s h = absurd (omega arith)
      alike_iter (suc fuel) (suc fuel') k s h =
          alike_charge _ i _ s _ _ λ t.
          decide_both Alike (holds test t.store) (alike_bind _ (alike_closing _ (ih t)) (λ u. alike_iter fuel fuel' (suc k) u (omega arith))) same_go same_halt

      alike_enter : (form : Form) (s : State) → Alike (enter π form i test body s) (enter π form i test body (plus s))
      unfolding enter starting turning
      alike_enter while s = alike_bind _ (alike_closing _ same_go) λ t. alike_iter _ _ 0 t (omega arith)
      alike_enter hold s = alike_bind _ (alike_closing _ same_go) λ t. alike_iter _ _ 0 t (omega arith)
      alike_enter (for x) s = alike_bind _ (alike_closing _ (alike_exec i _ s)) λ t. alike_iter _ _ 0 t (omega arith)
      alike_enter do_while s = alike_bind _ (alike_closing _ same_go) λ t. alike_bind _ (alike_closing _ (ih t)) (λ u. alike_iter _ _ 1 u (omega arith))

    alike_run : (b : Block) (s : State) → Alike (run π b s) (run π b (plus s))
    unfolding run
    alike_run done s = same_go
    alike_run (plain i p rest) s = alike_bind _ (alike_exec i p s) λ t. alike_run rest t
    alike_run (pick i e a b rest) s = alike_bind _ (alike_charge _ i _ s _ _ λ t. alike_taken i t.picks t _ _ (λ u. alike_run a u) (λ u. alike_run b u)) λ t. alike_run rest t
    alike_run (loop i e form test body rest) s = alike_bind _ (alike_enter i test _ (λ t. alike_run body t) form s) λ t. alike_run rest t

-- ---- a run that is not spent has the same answer with any larger allowance
same_ticks : (d allowance : ℕ) (picks : List ℕ) (e : Ending) (i : ℕ) (s : State) (es : List Entry)
    → answer_of (allowance + d) picks e i (plus d s) es ≡ answer_of allowance picks e i s es
same_ticks d allowance picks e i s es =
    let t : allowance + d - (s.left + d) ≡ allowance - s.left = omega arith in
    λ k. record { ending = e; row = i; ticks = t k; used = length picks - length s.picks; store = s.store; entries = es }

run_grown : (π : Prices) (rows : ℕ) (tree : Block) (store : Store) (picks : List ℕ) (allowance d : ℕ)
    → Unspent (run_tree π rows tree store picks allowance).ending → run_tree π rows tree store picks (allowance + d) ≡ run_tree π rows tree store picks allowance
unfolding run_tree answer
run_grown π rows tree store picks allowance d u = by (alike_run d π tree (record { store = store; left = allowance; picks = picks })) u
  where
    by : {x y : Out} → Alike d x y → Unspent (answer rows allowance picks x).ending → answer rows (allowance + d) picks y ≡ answer rows allowance picks x
    by (same_go {s = s} {es = es}) u = same_ticks d allowance picks Ended rows s es
    by (same_halt {e = e} {i = i} {s = s} {es = es}) u = same_ticks d allowance picks e i s es
    by was_spent u = absurd u

pub run_more : (π : Prices) (rows : ℕ) (tree : Block) (store : Store) (picks : List ℕ) (n m : ℕ) → n ≤ m
    → Unspent (run_tree π rows tree store picks n).ending → run_tree π rows tree store picks m ≡ run_tree π rows tree store picks n
run_more π rows tree store picks n m l u =
    let e : m ≡ n + (m - n) = omega arith in
    ap (run_tree π rows tree store picks) e ∙ run_grown π rows tree store picks n (m - n) u
