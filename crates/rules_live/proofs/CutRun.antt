-- A run that is cut off: each of its entries is an entry of the run with more ticks, or one that has more turns there. So it keeps within the report.
use mathlib.Core.Path.{◌≡◌, refl, sym, subst}
use mathlib.Core.Bool.{Bool, true, false}
use mathlib.Core.List.{List, [], ◌∷◌, ◌++◌}
use Prim.Native.Nat.{ℕ, zero, suc, ◌+◌, ◌-◌, ◌≤◌}
use native.Mathlib.Omega.{arith}
use lib.Dec.{T, leb, eqb}
use Rattle.rules.specs.declared.Ending.{Ending}
use Rattle.rules.specs.declared.Ending.TheVariants.{Spent}
use Rattle.rules.proofs.Outcomes.{decide_both, decide_elim}
use Rattle.rules.specs.Values.{in_limits, Result, number, past}
use Rattle.rules.specs.Blocks.{Plain, assign, cue, Test, Form, while, do_while, for, Block, done, plain, pick, loop, hold}
use Rattle.rules.specs.declared.Prices.{Prices}
use Rattle.rules.specs.Run.{State, Entry, Out, go, halt, prepend, bind, closing, choose, charge, write, exec, taken, holds, entry, iter, starting, turning, enter, run, decide}
use Rattle.rules_machine.proofs.RunMore.{plus, fits_more, less_more}

-- the entries of a cut run beside those of a longer one: the same, or begun and with fewer turns; more come after and between
pub data Short : List Entry → List Entry → Type 0 where
  none : {fs : List Entry} → Short [] fs
  same : {e : Entry} {es fs : List Entry} → Short es fs → Short (e ∷ es) (e ∷ fs)
  begun : {e f : Entry} {es fs : List Entry} → e.row ≡ f.row → e.turns ≤ f.turns → (T e.tested → ⊥) → Short es fs → Short (e ∷ es) (f ∷ fs)
  skip : {f : Entry} {es fs : List Entry} → Short es fs → Short es (f ∷ fs)

pub short_refl : (es : List Entry) → Short es es
short_refl [] = none
short_refl (e ∷ es) = same (short_refl es)

short_after : {es fs : List Entry} (gs : List Entry) → Short es fs → Short es (gs ++ fs)
short_after [] h = h
short_after (g ∷ gs) h = skip (short_after gs h)

short_both : {es fs gs hs : List Entry} → Short es fs → Short gs hs → Short (es ++ gs) (fs ++ hs)
short_both (none {fs = fs}) k = short_after fs k
short_both (same h) k = same (short_both h k)
short_both (begun r n t h) k = begun r n t (short_both h k)
short_both (skip h) k = skip (short_both h k)

short_more : {es fs : List Entry} (gs : List Entry) → Short es fs → Short es (fs ++ gs)
short_more gs none = none
short_more gs (same h) = same (short_more gs h)
short_more gs (begun r n t h) = begun r n t (short_more gs h)
short_more gs (skip h) = skip (short_more gs h)

-- the entries of an outcome
unfoldable pub entries_of : Out → List Entry
entries_of (go s es) = es
entries_of (halt e i s es) = es

-- ---- an outcome has an entry of the loop at row i with k turns or more
module _ (i : ℕ) where
  pub data Has (k : ℕ) : List Entry → Type 0 where
    here : {n : ℕ} {b : Bool} {es : List Entry} → k ≤ n → Has k (record { row = i; turns = n; tested = b } ∷ es)
    later : {e : Entry} {es : List Entry} → Has k es → Has k (e ∷ es)

  has_after : {k : ℕ} {fs : List Entry} (es : List Entry) → Has k fs → Has k (es ++ fs)
  has_after [] h = h
  has_after (e ∷ es) h = later (has_after es h)

  has_short : {k : ℕ} {es : List Entry} → Has k es → Short (entry i k false) es
  has_short (here l) = begun refl l (λ t. t) none
  has_short (later h) = skip (has_short h)

  -- a turn, and what follows it
  has_turn : (k n : ℕ) (o : Out) (f : State → Out) → k ≤ n → ((s : State) → Has k (entries_of (f s))) → Has k (entries_of (bind (closing (entry i n false) o) f))
  unfolding bind closing prepend entries_of
  has_turn k n (go s es) f l h = by (f s) (h s)
    where
      by : (o : Out) → Has k (entries_of o) → Has k (entries_of (prepend es o))
      by (go t fs) g = has_after es g
      by (halt e j t fs) g = has_after es g
  has_turn k n (halt e j s es) f l h = has_after es (here l)

  has_choose : (k : ℕ) (b : Bool) (x y : Out) → Has k (entries_of x) → Has k (entries_of y) → Has k (entries_of (choose b x y))
  unfolding choose
  has_choose k true x y h g = h
  has_choose k false x y h g = g

  -- a loop once its test is paid for, n turns done, and from its test on
  has_tested : (k n : ℕ) (test : Test) (f : State → Out) (o : Out) (s : State) → k ≤ n → ((u : State) → Has k (entries_of (f u)))
      → Has k (entries_of (decide (holds test s.store) (bind (closing (entry i (suc n) false) o) f) (go s (entry i n true)) (halt Ending.Range i s (entry i n false))))
  unfolding entries_of
  has_tested k n test f o s l h =
      decide_elim (λ o. Has k (entries_of o)) (holds test s.store) (λ _. has_turn k (suc n) o f (omega arith) h) (λ _. here l) (here l)

  has_iter : (π : Prices) (test : Test) (body : State → Out) (k fuel n : ℕ) (s : State) → k ≤ n → Has k (entries_of (iter π i test body fuel n s))
  unfolding iter charge entries_of
  has_iter π test body k zero n s l = here l
  has_iter π test body k (suc fuel) n s l =
      let t : State = record { store = s.store; left = s.left - π.test; picks = s.picks } in
      has_choose k (leb π.test s.left) _ _
      (has_tested k n test (λ u. iter π i test body fuel (suc n) u) (body t) t l (λ u. has_iter π test body k fuel (suc n) u (omega arith))) (here l)

-- ---- an outcome, and the same with d more ticks
module _ (d : ℕ) where
  -- the same with d more ticks; or it was spent, and has less of the entries
  pub data Later : Out → Out → Type 0 where
    same_go : {s : State} {es : List Entry} → Later (go s es) (go (plus d s) es)
    same_halt : {e : Ending} {i : ℕ} {s : State} {es : List Entry} → Later (halt e i s es) (halt e i (plus d s) es)
    was_spent : {i : ℕ} {s : State} {es : List Entry} {o : Out} → Short es (entries_of o) → Later (halt Spent i s es) o

  -- a law for each former of `Out`
  later_prepend : (es : List Entry) {x y : Out} → Later x y → Later (prepend es x) (prepend es y)
  unfolding prepend entries_of
  later_prepend es same_go = same_go
  later_prepend es same_halt = same_halt
  later_prepend es (was_spent {o = o} h) = by o h
    where
      by : {i : ℕ} {s : State} {fs : List Entry} (o : Out) → Short fs (entries_of o) → Later (halt Spent i s (es ++ fs)) (prepend es o)
      by (go t gs) h = was_spent (short_both (short_refl es) h)
      by (halt e j t gs) h = was_spent (short_both (short_refl es) h)

  -- what comes after an outcome adds entries
  bind_more : {es : List Entry} (o : Out) (l : State → Out) → Short es (entries_of o) → Short es (entries_of (bind o l))
  unfolding bind prepend entries_of
  bind_more {es} (go t gs) l h = by (l t)
    where
      by : (o : Out) → Short es (entries_of (prepend gs o))
      by (go u hs) = short_more hs h
      by (halt e j u hs) = short_more hs h
  bind_more (halt e j t gs) l h = h

  later_bind : {x y : Out} {k : State → Out} (l : State → Out) → Later x y → ((t : State) → Later (k t) (l (plus d t))) → Later (bind x k) (bind y l)
  unfolding bind
  later_bind l (same_go {s = s} {es = es}) f = later_prepend es (f s)
  later_bind l same_halt f = same_halt
  later_bind l (was_spent {o = o} h) f = was_spent (bind_more o l h)

  -- a turn of the loop at row i, the n-th, and what follows it
  later_turn : (i n : ℕ) {x y : Out} {k : State → Out} (l : State → Out) → Later x y → ((t : State) → Later (k t) (l (plus d t))) → ((t : State) → Has i n (entries_of (l t)))
      → Later (bind (closing (entry i n false) x) k) (bind (closing (entry i n false) y) l)
  unfolding bind closing prepend entries_of
  later_turn i n l (same_go {s = s} {es = es}) f g = later_prepend es (f s)
  later_turn i n l same_halt f g = same_halt
  later_turn i n l (was_spent {o = o} h) f g = was_spent (by o h)
    where
      at : (gs : List Entry) {es : List Entry} (o : Out) → Short es gs → Has i n (entries_of o) → Short (es ++ entry i n false) (entries_of (prepend gs o))
      at gs (go u hs) h k = short_both h (has_short i k)
      at gs (halt e j u hs) h k = short_both h (has_short i k)

      by : {es : List Entry} (o : Out) → Short es (entries_of o) → Short (es ++ entry i n false) (entries_of (bind (closing (entry i n false) o) l))
      by (go t gs) h = at gs (l t) h (g t)
      by (halt e j t gs) h = short_both h (short_refl (entry i n false))

  later_choose : (b : Bool) {x y u v : Out} → Later x u → Later y v → Later (choose b x y) (choose b u v)
  unfolding choose
  later_choose true h k = h
  later_choose false h k = k

  later_charge : (c i : ℕ) (es : List Entry) (s : State) (k l : State → Out) → ((t : State) → Later (k t) (l (plus d t))) → ((t : State) → Short es (entries_of (l t)))
      → Later (charge c i es s k) (charge c i es (plus d s) l)
  unfolding charge choose entries_of
  later_charge c i es s k l f g = by (leb c s.left) (leb c (s.left + d)) (fits_more d c s.left) (less_more d c s.left)
    where
      by : (a b : Bool) → (T a → T b) → (T a → s.left + d - c ≡ s.left - c + d)
          → Later (choose a (k (record { store = s.store; left = s.left - c; picks = s.picks })) (halt Spent i s es))
          (choose b (l (record { store = s.store; left = s.left + d - c; picks = s.picks })) (halt Spent i (plus d s) es))
      by true true h e = subst (λ n. Later (k (record { store = s.store; left = s.left - c; picks = s.picks })) (l (record { store = s.store; left = n; picks = s.picks }))) (sym (e tt)) (f _)
      by true false h e = absurd (h tt)
      by false true h e = was_spent (g _)
      by false false h e = was_spent (short_refl es)

  later_write : (i v : ℕ) (r : Result) (s : State) → Later (write i v r s) (write i v r (plus d s))
  unfolding write
  later_write i v (number x) s = later_choose (in_limits x) same_go same_halt
  later_write i v past s = same_halt

  later_taken : (i : ℕ) (bs : List ℕ) (s : State) (f g : State → Out) → ((t : State) → Later (f t) (f (plus d t))) → ((t : State) → Later (g t) (g (plus d t)))
      → Later (taken i bs s f g) (taken i bs (plus d s) f g)
  unfolding taken
  later_taken i [] s f g hf hg = same_halt
  later_taken i (b ∷ bs) s f g hf hg = later_choose (eqb b 0) (hg _) (hf _)

  module _ (π : Prices) where
    later_exec : (i : ℕ) (p : Plain) (s : State) → Later (exec π i p s) (exec π i p (plus d s))
    unfolding exec
    later_exec i (assign v x) s = later_charge _ i _ s _ _ (λ t. later_write i v _ t) (λ t. none)
    later_exec i (cue n) s = later_charge _ i _ s _ _ (λ t. same_go) (λ t. none)

    module _ (i : ℕ) (test : Test) (body : State → Out) (ih : (s : State) → Later (body s) (body (plus d s))) where
      -- more ticks have more fuel
      later_iter : (fuel fuel' k : ℕ) (s : State) → fuel ≤ fuel' → Later (iter π i test body fuel k s) (iter π i test body fuel' k (plus d s))
      unfolding iter
      later_iter zero fuel' k s h = was_spent (has_short i (has_iter i π test body k fuel' k (plus d s) (omega arith)))
      later_iter (suc fuel) zero k s h = absurd (omega arith)
      later_iter (suc fuel) (suc fuel') k s h =
          later_charge _ i _ s _ _
          (λ t. decide_both Later (holds test t.store)
          (later_turn i (suc k) _ (ih t) (λ u. later_iter fuel fuel' (suc k) u (omega arith)) (λ u. has_iter i π test body (suc k) fuel' (suc k) u (omega arith))) same_go same_halt)
          (λ t. has_short i (has_tested i k k test (λ u. iter π i test body fuel' (suc k) u) (body t) t (omega arith) (λ u. has_iter i π test body k fuel' (suc k) u (omega arith))))

      later_turning : (form : Form) (s : State) → Later (turning π form i test body s) (turning π form i test body (plus d s))
      unfolding turning
      later_turning while s = later_iter _ _ 0 s (omega arith)
      later_turning hold s = later_iter _ _ 0 s (omega arith)
      later_turning (for x) s = later_iter _ _ 0 s (omega arith)
      later_turning do_while s = later_turn i 1 _ (ih s) (λ u. later_iter _ _ 1 u (omega arith)) (λ u. has_iter i π test body 1 _ 1 u (omega arith))

      has_turning : (form : Form) (s : State) → Has i 0 (entries_of (turning π form i test body s))
      unfolding turning
      has_turning while s = has_iter i π test body 0 _ 0 s (omega arith)
      has_turning hold s = has_iter i π test body 0 _ 0 s (omega arith)
      has_turning (for x) s = has_iter i π test body 0 _ 0 s (omega arith)
      has_turning do_while s = has_turn i 0 1 _ _ (omega arith) (λ u. has_iter i π test body 0 _ 1 u (omega arith))

      later_starting : (form : Form) (s : State) → Later (starting π form i test s) (starting π form i test (plus d s))
      unfolding starting
      later_starting while s = same_go
      later_starting hold s = same_go
      later_starting (for x) s = later_exec i _ s
      later_starting do_while s = same_go

      later_enter : (form : Form) (s : State) → Later (enter π form i test body s) (enter π form i test body (plus d s))
      unfolding enter
      later_enter form s = later_turn i 0 _ (later_starting form s) (λ t. later_turning form t) (λ t. has_turning form t)

    pub later_run : (b : Block) (s : State) → Later (run π b s) (run π b (plus d s))
    unfolding run
    later_run done s = same_go
    later_run (plain i p rest) s = later_bind _ (later_exec i p s) λ t. later_run rest t
    later_run (pick i e a b rest) s =
        later_bind _ (later_charge _ i _ s _ _ (λ t. later_taken i t.picks t _ _ (λ u. later_run a u) (λ u. later_run b u)) (λ t. none)) λ t. later_run rest t
    later_run (loop i e form test body rest) s = later_bind _ (later_enter i test _ (λ t. later_run body t) form s) λ t. later_run rest t
