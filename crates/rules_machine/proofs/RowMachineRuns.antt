-- The machine over the rows does what `run` does on their tree.
use mathlib.Core.Path.{◌≡◌, refl, sym, ◌∙◌, ap, subst}
use mathlib.Core.Bool.{Bool, true, false, not, cond}
use mathlib.Core.List.{List, [], ◌∷◌, ◌++◌, append_assoc, append-nil}
use Prim.Native.Nat.{ℕ, zero, suc, ◌+◌, ◌-◌, ◌*◌, ◌≤◌, ◌<◌, max}
use native.Mathlib.Omega.{arith}
use lib.Dec.{T, leb, ltb, eqb, leb→le, ltb→lt, lt→ltb, nltb→le, eqb→eq, eqb_refl}
use native.Mathlib.Nat.{suc-mul, mul-le-mul_right}
use lib.ListN.{length, get_or-eq_default}
use Rattle.rules.specs.declared.Ending.{Ending}
use Rattle.rules.specs.declared.Ending.TheVariants.{Ended}
use Rattle.rules.specs.Blocks.{Plain, assign, cue, Test, Form, while, do_while, hold, for, Last, no_step, step_by, View, is_plain, is_pick, is_else, is_end, is_loop, view_of, view_at, Block, done, plain, pick, loop, snoc, with_last, parts, to_end, build, end_of, block_at, end_at, RowKind, End}
use Rattle.rules.specs.Scripts.{tree_of}
use Rattle.rules.specs.declared.Prices.{Prices}
use Rattle.rules.specs.Run.{State, Entry, Out, go, halt, prepend, bind, closing, choose, charge, write, exec, taken, holds, entry, iter, starting, turning, enter, run}
use Rattle.rules.specs.Values.{Store, Result, number, past}
use Rattle.rules.specs.Answers.{answer, run_tree, own, sum_at, most_at}
use Rattle.rules_machine.specs.RowMachine.{TurnCounts, begin, turn, Phase, fresh, testing, Place, Next, more, over, to, chosen, outcome, paid, picked, tests, on_end, on_row, next, steps, Opens, Partners, start, Tells, tells, Finished, at_the_end, at_row, Replies, phase_rank, rank}
use Rattle.rules.proofs.Outcomes.{Thru, went, ended, at, thru_all, decide_elim, decide_both}
use Rattle.rules_machine.proofs.Fewer.{Fewer, exec_less, run_less}
use Rattle.rules.proofs.Laws.{sum_append, most_append}
use Rattle.rules.proofs.Rows.{LoopAt, PickAt, alone, both, block_last, block_plain, block_pick, block_else, block_end, block_loop, block_whole}

-- ---- the tally and the entries
-- the same entries in another order
swapped : (c : TurnCounts) (log es fs : List Entry) → Tells c ((log ++ es) ++ fs) → Tells c ((log ++ fs) ++ es)
swapped c log es fs (tells h) = tells λ p.
    let (a, b) = h p in (
      omega (arith, sum_append p (log ++ es) fs, sum_append p log es, sum_append p (log ++ fs) es, sum_append p log fs),
      omega (arith, most_append p (log ++ es) fs, most_append p log es, most_append p (log ++ fs) es, most_append p log fs),
    )

grouped : (c : TurnCounts) (log es fs : List Entry) → Tells c ((log ++ es) ++ fs) → Tells c (log ++ (es ++ fs))
grouped c log es fs h = rw append_assoc at h

-- one entry more
sum_entry : (p : ℕ) (log : List Entry) (h k : ℕ) (b : Bool) → sum_at p (log ++ entry h k b) ≡ sum_at p log + own p h k
unfolding sum_at
sum_entry p log h k b = omega (arith, sum_append p log (entry h k b))

most_entry : (p : ℕ) (log : List Entry) (h k : ℕ) (b : Bool) → most_at p (log ++ entry h k b) ≡ max (most_at p log) (own p h k)
unfolding most_at
most_entry p log h k b = omega (arith, most_append p log (entry h k b))

own_zero : (b : Bool) → ◌≡◌ {A = ℕ} (cond b 0 0) 0
own_zero true = refl
own_zero false = refl

-- an entry that begins has no turn yet
told_none : (c : TurnCounts) (h : ℕ) (log : List Entry) → Tells c log → Tells c (log ++ entry h 0 false)
told_none c h log (tells f) = tells λ p.
    let (a, b) = f p in
    let z : own p h 0 ≡ 0 = own_zero (eqb p h) in
    (omega (arith, sum_entry p log h 0 false), omega (arith, most_entry p log h 0 false))

told_begun : (c : TurnCounts) (h : ℕ) (log : List Entry) → Tells c log → Tells (begin h c) log
unfolding begin
told_begun c h log (tells f) = tells f

-- a turn begins
told_turn : (c : TurnCounts) (h k : ℕ) (log : List Entry) → c.turns h ≡ k → Tells c (log ++ entry h k false) → Tells (turn h c) (log ++ entry h (suc k) false)
unfolding turn
told_turn c h k log e (tells f) = tells λ p. (
  by p (eqb p h) (eqb→eq p h) ((f p).0 ∙ sum_entry p log h k false) ∙ sym (sum_entry p log h (suc k) false),
  by' p (eqb p h) (eqb→eq p h) ((f p).1 ∙ most_entry p log h k false) ∙ sym (most_entry p log h (suc k) false),
)
  where
    by : (p : ℕ) (b : Bool) → (T b → p ≡ h) → c.sum p ≡ sum_at p log + cond b k 0 → cond b (suc (c.sum h)) (c.sum p) ≡ sum_at p log + cond b (suc k) 0
    by p true q a = let z : c.sum p ≡ c.sum h = ap c.sum (q tt) in omega arith
    by p false q a = a

    by' : (p : ℕ) (b : Bool) → (T b → p ≡ h) → c.most p ≡ max (most_at p log) (cond b k 0)
        → cond b (max (c.most h) (suc (c.turns h))) (c.most p) ≡ max (most_at p log) (cond b (suc k) 0)
    by' p true q a = let z : c.most p ≡ c.most h = ap c.most (q tt) in omega arith
    by' p false q a = a

-- whether the test ended an entry is not counted
told_tested : (c : TurnCounts) (h k : ℕ) (log : List Entry) → Tells c (log ++ entry h k false) → Tells c (log ++ entry h k true)
told_tested c h k log (tells f) = tells λ p.
    ((f p).0 ∙ sum_entry p log h k false ∙ sym (sum_entry p log h k true), (f p).1 ∙ most_entry p log h k false ∙ sym (most_entry p log h k true))

-- ---- the turns of the loops before row `lo` are kept
data Kept (lo : ℕ) (c d : TurnCounts) : Type 0 where
  kept : ((p : ℕ) → p < lo → d.turns p ≡ c.turns p) → Kept lo c d

kept_refl : (lo : ℕ) (c : TurnCounts) → Kept lo c c
kept_refl lo c = kept λ p h. refl

kept_trans : (lo lo' : ℕ) (b c d : TurnCounts) → lo ≤ lo' → Kept lo b c → Kept lo' c d → Kept lo b d
kept_trans lo lo' b c d l (kept f) (kept g) = kept λ p h. g p (omega arith) ∙ f p h

off : (p h n m : ℕ) → p < h → cond (eqb p h) n m ≡ m
off p h n m l = by (eqb p h) (eqb→eq p h)
  where
    by : (b : Bool) → (T b → p ≡ h) → cond b n m ≡ m
    by true f = absurd (omega (arith, f tt))
    by false f = refl

on : (h n m : ℕ) → cond (eqb h h) n m ≡ n
on h n m = by (eqb h h) (eqb_refl h)
  where
    by : (b : Bool) → T b → cond b n m ≡ n
    by true f = refl
    by false f = absurd f

kept_begin : (h : ℕ) (c : TurnCounts) → Kept h c (begin h c)
unfolding begin
kept_begin h c = kept λ p l. off p h _ _ l

kept_turn : (h : ℕ) (c : TurnCounts) → Kept h c (turn h c)
unfolding turn
kept_turn h c = kept λ p l. off p h _ _ l

begin_turns : (h : ℕ) (c : TurnCounts) → (begin h c).turns h ≡ 0
unfolding begin
begin_turns h c = on h _ _

turn_turns : (h : ℕ) (c : TurnCounts) → (turn h c).turns h ≡ suc (c.turns h)
unfolding turn
turn_turns h c = on h _ _

-- ---- a row's own outcome has no entries
data Bare : Out → Type 0 where
  bare_go : {s : State} → Bare (go s [])
  bare_halt : {e : Ending} {i : ℕ} {s : State} → Bare (halt e i s [])

bare_choose : (b : Bool) {x y : Out} → Bare x → Bare y → Bare (choose b x y)
unfolding choose
bare_choose true h k = h
bare_choose false h k = k

bare_write : (i v : ℕ) (r : Result) (s : State) → Bare (write i v r s)
unfolding write
bare_write i v (number x) s = bare_choose _ bare_go bare_halt
bare_write i v past s = bare_halt

bare_exec : (π : Prices) (i : ℕ) (p : Plain) (s : State) → Bare (exec π i p s)
unfolding exec charge
bare_exec π i (assign v x) s = bare_choose _ (bare_write i v _ _) bare_halt
bare_exec π i (cue n) s = bare_choose _ bare_go bare_halt

-- ---- a for's step at the end of its body
prepend_twice : (es fs : List Entry) (o : Out) → prepend (es ++ fs) o ≡ prepend es (prepend fs o)
unfolding prepend
prepend_twice es fs (go s gs) = ap (go s) (append_assoc es fs gs)
prepend_twice es fs (halt e i s gs) = ap (halt e i s) (append_assoc es fs gs)

prepend_none : (o : Out) → prepend [] o ≡ o
unfolding prepend
prepend_none (go s es) = refl
prepend_none (halt e i s es) = refl

bind_prepend : (es : List Entry) (o : Out) (f : State → Out) → bind (prepend es o) f ≡ prepend es (bind o f)
unfolding bind prepend
bind_prepend es (go s fs) f = prepend_twice es fs (f s)
bind_prepend es (halt e i s fs) f = refl

bind_bind : (o : Out) (f g : State → Out) → bind (bind o f) g ≡ bind o (λ s. bind (f s) g)
unfolding bind
bind_bind (go s es) f g = bind_prepend es (f s) g
bind_bind (halt e i s es) f g = refl

bind_go : (o : Out) → bind o (λ s. go s []) ≡ o
unfolding bind prepend
bind_go (go s es) = ap (go s) (append-nil es)
bind_go (halt e i s es) = refl

bind_start : (s : State) (f : State → Out) → bind (go s []) f ≡ f s
unfolding bind
bind_start s f = prepend_none (f s)

-- what comes after the first part
bind_later : (o : Out) (f g h : State → Out) → ((t : State) → f t ≡ bind (g t) h) → bind o f ≡ bind (bind o g) h
bind_later o f g h e = ap (bind o) (λ k t. e t k) ∙ sym (bind_bind o g h)

run_snoc : (π : Prices) (b : Block) (i : ℕ) (p : Plain) (s : State) → run π (snoc b i p) s ≡ bind (run π b s) (λ t. exec π i p t)
unfolding run snoc
run_snoc π done i p s = bind_go (exec π i p s) ∙ sym (bind_start s _)
run_snoc π (plain j q rest) i p s = bind_later _ _ _ _ (λ t. run_snoc π rest i p t)
run_snoc π (pick j e a b rest) i p s = bind_later _ _ _ _ (λ t. run_snoc π rest i p t)
run_snoc π (loop j e form t body rest) i p s = bind_later _ _ _ _ (λ u. run_snoc π rest i p u)

chosen_yes : (b : Bool) (x y : Next) → T b → chosen b x y ≡ x
unfolding chosen
chosen_yes true x y h = refl
chosen_yes false x y h = absurd h

chosen_no : (b : Bool) (x y : Next) → (T b → ⊥) → chosen b x y ≡ y
unfolding chosen
chosen_no true x y h = absurd (h tt)
chosen_no false x y h = refl

-- ---- some steps of the machine
module _ (π : Prices) (rows : List RowKind) (matching_end_lem matching_head_lem : ℕ → ℕ) where
  data Reach : Next → Next → Type 0 where
    here : {a : Next} → Reach a a
    step : {m : Place} {r : Next} → Reach (next π rows matching_end_lem matching_head_lem m) r → Reach (more m) r

  reach_trans : {a b c : Next} → Reach a b → Reach b c → Reach a c
  reach_trans here k = k
  reach_trans (step h) k = step (reach_trans h k)

  -- from a on the machine does what the outcome says and goes on at K; before, c had counted the entries `log`
  data Does (K : State → TurnCounts → Next) (lo : ℕ) (c : TurnCounts) (log : List Entry) : Next → Out → Type 0 where
    goes : {a : Next} {s : State} {es : List Entry} {d : TurnCounts} → Reach a (K s d) → Tells d (log ++ es) → Kept lo c d → Does K lo c log a (go s es)
    halts : {a : Next} {e : Ending} {i : ℕ} {s : State} {es : List Entry} {d : TurnCounts} → Reach a (over e i s d) → Tells d (log ++ es) → Does K lo c log a (halt e i s es)

  module _ {K : State → TurnCounts → Next} {log : List Entry} where
    does_from : {lo : ℕ} {c : TurnCounts} {a b : Next} {o : Out} → Reach a b → Does K lo c log b o → Does K lo c log a o
    does_from h (goes k t e) = goes (reach_trans h k) t e
    does_from h (halts k t) = halts (reach_trans h k) t

    -- fewer turns kept, from another tally
    does_since : (lo lo' : ℕ) {c d : TurnCounts} {a : Next} {o : Out} → lo ≤ lo' → Kept lo c d → Does K lo' d log a o → Does K lo c log a o
    does_since lo lo' {c} {d} l k (goes {d = d'} h t e) = goes h t (kept_trans lo lo' c d d' l k e)
    does_since lo lo' l k (halts h t) = halts h t

    -- a step further
    does_to : {J : State → TurnCounts → Next} {lo : ℕ} {c : TurnCounts} {a : Next} {o : Out} → Does K lo c log a o → ((s : State) (d : TurnCounts) → Reach (K s d) (J s d)) → Does J lo c log a o
    does_to (goes h t e) f = goes (reach_trans h (f _ _)) t e
    does_to (halts h t) f = halts h t

  does_prepend : {K : State → TurnCounts → Next} {log : List Entry} {o : Out} {lo : ℕ} {c : TurnCounts} {a : Next} (es : List Entry)
      → Does K lo c (log ++ es) a o → Does K lo c log a (prepend es o)
  unfolding prepend
  does_prepend {log} es (goes {es = fs} {d = d} h t e) = goes h (grouped d log es fs t) e
  does_prepend {log} es (halts {es = fs} {d = d} h t) = halts h (grouped d log es fs t)

  does_bind : {K J : State → TurnCounts → Next} {lo : ℕ} {c : TurnCounts} {log : List Entry} {a : Next} {o : Out} {f : State → Out} → Does K lo c log a o
      → ((s : State) (es : List Entry) (d : TurnCounts) → Tells d (log ++ es) → Does J lo d (log ++ es) (K s d) (f s)) → Does J lo c log a (bind o f)
  unfolding bind
  does_bind {lo} (goes {s = s} {es = es} {d = d} h t e) g = does_prepend es (does_from h (does_since lo lo (omega arith) e (g s es d t)))
  does_bind (halts h t) g = halts h t

  -- a part of the loop at row i with k turns begun: an ending ends the loop's entry too
  does_part : {Q : State → Type 0} {K J : State → TurnCounts → Next} {c : TurnCounts} {log : List Entry} {a : Next} {o : Out} {f : State → Out} (i k : ℕ)
      → Does K (suc i) c (log ++ entry i k false) a o → Thru Q o
      → ((s : State) (es : List Entry) (d : TurnCounts) → Q s → d.turns i ≡ c.turns i → Tells d ((log ++ es) ++ entry i k false) → Does J i d (log ++ es) (K s d) (f s))
      → Does J i c log a (bind (closing (entry i k false) o) f)
  unfolding bind closing
  does_part {c} {log} i k (goes {s = s} {es = es} {d = d} h t (kept e)) (went q) g =
      does_prepend es (does_from h (does_since i i (omega arith) (kept λ p l. e p (omega arith)) (g s es d q (e i (omega arith)) (swapped d log (entry i k false) es t))))
  does_part {log} i k (halts {es = es} {d = d} h t) ended g = halts h (grouped d log es (entry i k false) (swapped d log (entry i k false) es t))

  does_choose : {K : State → TurnCounts → Next} {lo : ℕ} {c : TurnCounts} {log : List Entry} (b : Bool) {x y : Next} {u v : Out}
      → (T b → Does K lo c log x u) → (T (not b) → Does K lo c log y v) → Does K lo c log (chosen b x y) (choose b u v)
  unfolding choose
  does_choose true f g = f tt
  does_choose false f g = g tt

  told_nil : (c : TurnCounts) (log : List Entry) → Tells c log → Tells c (log ++ [])
  told_nil c log h = rw append-nil h

  -- a plain row, a for's start or step
  does_row : {K : State → TurnCounts → Next} (lo : ℕ) (c : TurnCounts) (log : List Entry) {o : Out} → Bare o → Tells c log → Does K lo c log (outcome o c (λ u. K u c)) o
  unfolding outcome
  does_row lo c log bare_go h = goes here (told_nil c log h) (kept_refl lo c)
  does_row lo c log bare_halt h = halts here (told_nil c log h)

  -- a loop from its test on
  module _ (some-ticks : 1 ≤ π.test) (i e : ℕ) (t : Test) (body : Block)
      (ih : (s : State) (c : TurnCounts) (log : List Entry) → Tells c log → Does (tests π i e t) (suc i) c log (to (suc i) fresh s c) (run π body s)) where
    sim_iter : (fuel k : ℕ) (s : State) (c : TurnCounts) (log : List Entry) → s.left < fuel → c.turns i ≡ k → Tells c (log ++ entry i k false)
        → Does (to (suc e) fresh) i c log (tests π i e t s c) (iter π i t (λ u. run π body u) fuel k s)
    unfolding iter tests paid charge Fewer
    sim_iter zero k s c log h q told = absurd (omega arith)
    sim_iter (suc fuel) k s c log h q told =
        does_choose (leb π.test s.left)
        (λ b. let le = leb→le π.test s.left b in
        let u : State = at s (s.left - π.test) s.picks in
        decide_both (Does (to (suc e) fresh) i c log) (holds t s.store)
        (does_since i i (omega arith) (kept_turn i c)
        (does_part i (suc k) (ih u (turn i c) _ (told_turn c i k log q told)) (run_less π u.left body u (omega arith))
        (λ w es d l r told'. sim_iter fuel (suc k) w d (log ++ es) (omega arith) (r ∙ turn_turns i c ∙ ap suc q) told')))
        (goes here (told_tested c i k log told) (kept_refl i c))
        (halts here told))
        (λ _. halts here told)

  -- ---- rows by their views
  -- a step at row i, and past the last row
  pub next_row : (i : ℕ) (w : View) (ph : Phase) (s : State) (c : TurnCounts) → i < length rows → view_at rows i ≡ w
      → next π rows matching_end_lem matching_head_lem (record { row = i; phase = ph; now = s; tally = c }) ≡ on_row π rows matching_end_lem matching_head_lem w i ph s c
  unfolding next
  next_row i w ph s c h e = chosen_yes _ _ _ (lt→ltb i (length rows) h) ∙ ap (λ v. on_row π rows matching_end_lem matching_head_lem v i ph s c) e

  pub next_past : (i : ℕ) (ph : Phase) (s : State) (c : TurnCounts) → length rows ≤ i → next π rows matching_end_lem matching_head_lem (record { row = i; phase = ph; now = s; tally = c }) ≡ over Ended (length rows) s c
  unfolding next
  next_past i ph s c h = chosen_no (ltb i (length rows)) _ _ (λ b. omega (arith, ltb→lt i (length rows) b))

  row_step_lem : (i : ℕ) (w : View) (ph : Phase) (s : State) (c : TurnCounts) → i < length rows → view_at rows i ≡ w → Reach (to i ph s c) (on_row π rows matching_end_lem matching_head_lem w i ph s c)
  row_step_lem i w ph s c h e = step (subst (λ z. Reach z (on_row π rows matching_end_lem matching_head_lem w i ph s c)) (sym (next_row i w ph s c h e)) here)

  -- a step at the `end` e of the block that row i begins
  end_step : (i e : ℕ) (w : View) (ph : Phase) (s : State) (c : TurnCounts) → e < length rows → view_at rows e ≡ is_end → matching_head_lem e ≡ i → view_at rows i ≡ w
      → Reach (to e ph s c) (on_end π rows matching_end_lem matching_head_lem w i e ph s c)
  unfolding on_row
  end_step i e w ph s c h k q m =
      subst (λ z. Reach (to e ph s c) z) ((λ t. on_end π rows matching_end_lem matching_head_lem (view_at rows (q t)) (q t) e ph s c) ∙ ap (λ v. on_end π rows matching_end_lem matching_head_lem v i e ph s c) m) (row_step_lem e is_end ph s c h k)

  does_taken : {K : State → TurnCounts → Next} {lo : ℕ} {log : List Entry} (i j : ℕ) (l : List ℕ) (s : State) (c : TurnCounts) (f g : State → Out) → Tells c log
      → ((bs : List ℕ) → Does K lo c log (to (suc i) fresh (at s s.left bs) c) (f (at s s.left bs)))
      → ((bs : List ℕ) → Does K lo c log (to j fresh (at s s.left bs) c) (g (at s s.left bs)))
      → Does K lo c log (picked i j l s c) (taken i l s f g)
  unfolding picked taken
  does_taken {log} i j [] s c f g told hf hg = halts here (told_nil c log told)
  does_taken i j (x ∷ xs) s c f g told hf hg = does_choose (eqb x 0) (λ _. hg xs) (λ _. hf xs)

  module _ (some-ticks : 1 ≤ π.test) (tree : Block) (whole : build 0 rows ≡ parts (to_end (length rows) tree) []) (fit : Partners rows matching_end_lem matching_head_lem) where
    -- the machine runs the block that begins at row j, to the row that closes it
    abbrev Good : ℕ → Type 0
    Good j = (s : State) (c : TurnCounts) (log : List Entry) → Tells c log → Does (to (end_at rows j) fresh) j c log (to j fresh s c) (run π (block_at rows j) s)

    -- what row i begins, to row j, and then the block from row j on
    sim_then : (i j : ℕ) → i ≤ j → end_at rows i ≡ end_at rows j → (o : State → Out) → ((s : State) → run π (block_at rows i) s ≡ bind (o s) (λ t. run π (block_at rows j) t))
        → ((s : State) (c : TurnCounts) (log : List Entry) → Tells c log → Does (to j fresh) i c log (to i fresh s c) (o s)) → Good j → Good i
    sim_then i j l q o r first rest s c log told =
        subst (λ k. Does (to k fresh) i c log (to i fresh s c) (run π (block_at rows i) s)) (sym q)
        (subst (λ z. Does (to (end_at rows j) fresh) i c log (to i fresh s c) z) (sym (r s))
        (does_bind (first s c log told) (λ u es d told'. does_since i j l (kept_refl i d) (rest u d (log ++ es) told'))))

    module _ (i : ℕ) (h : i < length rows) (later : (j : ℕ) → i < j → j ≤ length rows → Good j) where
      sim_plain : (p : Plain) → view_at rows i ≡ is_plain p → Good i
      unfolding run on_row
      sim_plain p w =
          let (b, q) = block_plain rows tree whole i h p w in
          sim_then i (suc i) (omega arith) q (λ s. exec π i p s) (λ s. ap (λ z. run π z s) b)
          (λ s c log told. does_from (row_step_lem i (is_plain p) fresh s c h w) (does_row i c log (bare_exec π i p s) told))
          (later (suc i) (omega arith) (omega arith))

      sim_closed : (block_at rows i ≡ done) × (end_at rows i ≡ i) → Good i
      unfolding run
      sim_closed (b, q) s c log told =
          subst (λ k. Does (to k fresh) i c log (to i fresh s c) (run π (block_at rows i) s)) (sym q)
          (subst (λ z. Does (to i fresh) i c log (to i fresh s c) (run π z s)) (sym b) (goes here (told_nil c log told) (kept_refl i c)))

      -- a pick whose `else` (or `end`) is row j and whose `end` is row e
      sim_pick : (j e : ℕ) (a b : Block) → i < j → j ≤ e → e < length rows → view_at rows i ≡ is_pick → matching_end_lem i ≡ j
          → block_at rows i ≡ pick i e a b (block_at rows (suc e)) → end_at rows i ≡ end_at rows (suc e)
          → ((s : State) (c : TurnCounts) (log : List Entry) → Tells c log → Does (to (suc e) fresh) i c log (to (suc i) fresh s c) (run π a s))
          → ((s : State) (c : TurnCounts) (log : List Entry) → Tells c log → Does (to (suc e) fresh) i c log (to (suc j) fresh s c) (run π b s)) → Good i
      unfolding run on_row paid charge
      sim_pick j e a b l l' m r q bl en ha hb =
          sim_then i (suc e) (omega arith) en _ (λ s. ap (λ z. run π z s) bl)
          (λ s c log told. does_from (row_step_lem i is_pick fresh s c h r)
          (does_choose (leb π.pick s.left)
          (λ _. does_taken i (suc (matching_end_lem i)) s.picks (at s (s.left - π.pick) s.picks) c (λ u. run π a u) (λ u. run π b u) told (λ bs. ha _ c log told)
          (λ bs. subst (λ z. Does (to (suc e) fresh) i c log (to (suc z) fresh (at s (s.left - π.pick) bs) c) (run π b (at s (s.left - π.pick) bs))) (sym q) (hb _ c log told)))
          (λ _. halts here (told_nil c log told))))
          (later (suc e) (omega arith) (omega arith))

      -- a part of a pick, from row k on, and past the pick's `end` e
      sim_side : (k e : ℕ) → i < k → k ≤ length rows → ((s : State) (c : TurnCounts) → Reach (to (end_at rows k) fresh s c) (to (suc e) fresh s c))
          → (s : State) (c : TurnCounts) (log : List Entry) → Tells c log → Does (to (suc e) fresh) i c log (to k fresh s c) (run π (block_at rows k) s)
      sim_side k e l m f s c log told = does_to (does_since i k (omega arith) (kept_refl i c) (later k l m s c log told)) (λ u d. f u d)

      sim_picks : view_at rows i ≡ is_pick → PickAt rows i → Good i
      unfolding on_row on_end run
      sim_picks r (alone l m k bl en) =
          let open-it : Opens (view_at rows i) = subst Opens (sym r) tt in
          sim_pick _ _ _ _ l (omega arith) m r (fit.matching_ends i h open-it) bl en
          (sim_side (suc i) _ (omega arith) (omega arith) (λ s c. end_step i _ is_pick fresh s c m k (fit.opens i h open-it) r))
          (λ s c log told. goes here (told_nil c log told) (kept_refl i c))
      sim_picks r (both j q l k l' m k' bl en) =
          let open-it : Opens (view_at rows i) = subst Opens (sym r) tt in
          let open-else : Opens (view_at rows j) = subst Opens (sym k) tt in
          let j-in : j < length rows = omega arith in
          sim_pick j _ _ _ l (omega arith) m r (fit.matching_ends i h open-it ∙ q) bl en
          (sim_side (suc i) _ (omega arith) (omega arith) (λ s c. subst (λ z. Reach (to z fresh s c) (to (suc (end_at rows (suc j))) fresh s c)) (sym q)
          (subst (λ z. Reach (to j fresh s c) (to (suc z) fresh s c)) (fit.matching_ends j j-in open-else) (row_step_lem j is_else fresh s c j-in k))))
          (sim_side (suc j) _ (omega arith) (omega arith) (λ s c. end_step j _ is_else fresh s c m k' (fit.opens j j-in open-else) k))

      -- a loop, its `end` at row `last_row_lem`
      module _ (form : Form) (t : Test) (last : Last) (w : view_at rows i ≡ is_loop form t last) where
        abbrev last_row_lem : ℕ
        last_row_lem = end_at rows (suc i)

        at_i : LoopAt rows i form t last
        at_i = block_loop rows tree whole i h form t last w

        open-it : Opens (view_at rows i)
        open-it = subst Opens (sym w) tt

        from_head : (ph : Phase) (s : State) (c : TurnCounts) → Reach (to i ph s c) (on_row π rows matching_end_lem matching_head_lem (is_loop form t last) i ph s c)
        from_head ph s c = row_step_lem i (is_loop form t last) ph s c h w

        from_end : (ph : Phase) (s : State) (c : TurnCounts) → Reach (to last_row_lem ph s c) (on_end π rows matching_end_lem matching_head_lem (is_loop form t last) i last_row_lem ph s c)
        from_end ph s c = end_step i last_row_lem (is_loop form t last) ph s c at_i.in_rows at_i.ends (fit.opens i h open-it) w

        abbrev body : Block
        body = with_last last i (block_at rows (suc i))

        -- the test, and from where the head sends the machine
        at_a_test : (s : State) (c : TurnCounts) → Reach (to last_row_lem testing s c) (tests π i last_row_lem t s c)
        unfolding on_end
        at_a_test s c = from_end testing s c

        sent : (s : State) (c : TurnCounts) → Reach (to (matching_end_lem i) testing s c) (tests π i last_row_lem t s c)
        sent s c = subst (λ z. Reach (to z testing s c) (tests π i last_row_lem t s c)) (sym (fit.matching_ends i h open-it)) (at_a_test s c)

        -- a turn: from the body's first row to the test
        abbrev Turns : Type 0
        Turns = (s : State) (c : TurnCounts) (log : List Entry) → Tells c log → Does (tests π i last_row_lem t) (suc i) c log (to (suc i) fresh s c) (run π body s)

        sim_loop : ((s : State) (c : TurnCounts) (log : List Entry) → Tells c log → Does (to (suc last_row_lem) fresh) i c log (to i fresh s c) (enter π form i t (λ u. run π body u) s)) → Good i
        unfolding run
        sim_loop first =
            let l = at_i.past in
            let m = at_i.in_rows in
            sim_then i (suc last_row_lem) (omega arith) at_i.last _ (λ s. ap (λ z. run π z s) at_i.block) first (later (suc last_row_lem) (omega arith) (omega arith))

        -- from its test on
        sim_tests : Turns → (k : ℕ) (s : State) (c : TurnCounts) (log : List Entry) → c.turns i ≡ k → Tells c (log ++ entry i k false)
            → Does (to (suc last_row_lem) fresh) i c log (tests π i last_row_lem t s c) (iter π i t (λ u. run π body u) (suc s.left) k s)
        sim_tests ih k s c log q told = sim_iter some-ticks i last_row_lem t body ih (suc s.left) k s c log (omega arith) q told

      -- a turn by the body's last row
      sim_turn : (form : Form) (t : Test) (last : Last) (w : view_at rows i ≡ is_loop form t last) → Turns form t last w
      unfolding on_end with_last
      sim_turn form t no_step w s c log told = does_to (later (suc i) (omega arith) (omega arith) s c log told) (λ u d. reach_trans (from_end form t no_step w fresh u d) (at_a_test form t no_step w u d))
      sim_turn form t (step_by p) w s c log told =
          subst (λ z. Does (tests π i (end_at rows (suc i)) t) (suc i) c log (to (suc i) fresh s c) z) (sym (run_snoc π (block_at rows (suc i)) i p s))
          (does_bind (later (suc i) (omega arith) (omega arith) s c log told)
          (λ u es d told'. does_from (from_end form t (step_by p) w fresh u d)
          (does_to {K = to (end_at rows (suc i)) testing} (does_row (suc i) d (log ++ es) (bare_exec π i p u) told') (λ v e. at_a_test form t (step_by p) w v e))))

      -- an entry by the loop's form
      sim_enter : (form : Form) (t : Test) (last : Last) → view_at rows i ≡ is_loop form t last → Good i
      unfolding on_row enter starting turning bind closing
      sim_enter while t last w = sim_loop while t last w λ s c log told.
          subst (λ z. Does (to (suc (end_at rows (suc i))) fresh) i c log (to i fresh s c) z) (sym (prepend_none _))
          (does_from (reach_trans (from_head while t last w fresh s c) (sent while t last w s (begin i c)))
          (does_since i i (omega arith) (kept_begin i c) (sim_tests while t last w (sim_turn while t last w) 0 s (begin i c) log (begin_turns i c) (told_begun c i _ (told_none c i log told)))))
      sim_enter hold t last w = sim_loop hold t last w λ s c log told.
          subst (λ z. Does (to (suc (end_at rows (suc i))) fresh) i c log (to i fresh s c) z) (sym (prepend_none _))
          (does_from (reach_trans (from_head hold t last w fresh s c) (sent hold t last w s (begin i c)))
          (does_since i i (omega arith) (kept_begin i c) (sim_tests hold t last w (sim_turn hold t last w) 0 s (begin i c) log (begin_turns i c) (told_begun c i _ (told_none c i log told)))))
      sim_enter do_while t last w = sim_loop do_while t last w λ s c log told.
          let one : TurnCounts = turn i (begin i c) in
          subst (λ z. Does (to (suc (end_at rows (suc i))) fresh) i c log (to i fresh s c) z) (sym (prepend_none _))
          (does_from (from_head do_while t last w fresh s c)
          (does_since i i (omega arith) (kept_trans i i c (begin i c) one (omega arith) (kept_begin i c) (kept_turn i (begin i c)))
          (does_part i 1 (sim_turn do_while t last w s one _ (told_turn (begin i c) i 0 log (begin_turns i c) (told_begun c i _ (told_none c i log told)))) (thru_all {Q = λ _. Unit {0}} _ (λ _. tt))
          (λ u es d _ q told'. sim_tests do_while t last w (sim_turn do_while t last w) 1 u d (log ++ es) (q ∙ turn_turns i (begin i c) ∙ ap suc (begin_turns i c)) told'))))
      sim_enter (for x) t last w = sim_loop (for x) t last w λ s c log told.
          does_from (from_head (for x) t last w fresh s c)
          (does_part {K = λ u d. to (matching_end_lem i) testing u (begin i d)} i 0 (does_row (suc i) c _ (bare_exec π i _ s) (told_none c i log told)) (thru_all {Q = λ _. Unit {0}} _ (λ _. tt))
          (λ u es d _ q told'. does_from (sent (for x) t last w u (begin i d))
          (does_since i i (omega arith) (kept_begin i d) (sim_tests (for x) t last w (sim_turn (for x) t last w) 0 u (begin i d) (log ++ es) (begin_turns i d) (told_begun d i _ told')))))

      sim_row : (v : View) → view_at rows i ≡ v → Good i
      sim_row (is_plain p) w = sim_plain p w
      sim_row is_pick w = sim_picks w (block_pick rows tree whole i h w)
      sim_row is_else w = sim_closed (block_else rows tree whole i h w)
      sim_row is_end w = sim_closed (block_end rows tree whole i h w)
      sim_row (is_loop form t last) w = sim_enter form t last w

    sim_last : (i : ℕ) → i ≡ length rows → Good i
    unfolding run
    sim_last i q s c log told =
        let (b, e) = block_last rows tree whole in
        subst (λ k. Does (to k fresh) i c log (to i fresh s c) (run π (block_at rows i) s)) (q ∙ sym (ap (end_at rows) q ∙ e))
        (subst (λ z. Does (to i fresh) i c log (to i fresh s c) (run π z s)) (sym (ap (block_at rows) q ∙ b)) (goes here (told_nil c log told) (kept_refl i c)))

    -- from row i with at most n rows left
    sim : (n i : ℕ) → i ≤ length rows → length rows ≤ i + n → Good i
    sim zero i h k = sim_last i (omega arith)
    sim (suc n) i h k = by (ltb i (length rows)) (ltb→lt i (length rows)) (nltb→le i (length rows)) (λ j u v. sim n j v (omega arith))
      where
        by : (b : Bool) → (T b → i < length rows) → (T (not b) → length rows ≤ i) → ((j : ℕ) → i < j → j ≤ length rows → Good j) → Good i
        by true f g later = sim_row i (f tt) later (view_at rows i) refl
        by false f g later = sim_last i (omega (arith, g tt))

-- ---- the measure falls with each step
module _ (W l k r q : ℕ) where
  fewer_ticks : k < l → r < W → k * W + r < l * W + q
  fewer_ticks h m = omega (arith, suc-mul k W, mul-le-mul_right W h)

  later_row : k ≤ l → r < q → k * W + r < l * W + q
  later_row h m = omega (arith, mul-le-mul_right W h)

-- ended, or lower than n
data Lower (R n : ℕ) : Next → Type 0 where
  lower_over : {e : Ending} {i : ℕ} {s : State} {c : TurnCounts} → Lower R n (over e i s c)
  lower_more : {m : Place} → m.row ≤ R → rank R m < n → Lower R n (more m)

lower_chosen : {R n : ℕ} (b : Bool) {x y : Next} → (T b → Lower R n x) → (T (not b) → Lower R n y) → Lower R n (chosen b x y)
unfolding chosen
lower_chosen true f g = f tt
lower_chosen false f g = g tt

-- a loop's head is a row
pub head_in : (rows : List RowKind) (h : ℕ) (form : Form) (t : Test) (last : Last) → view_at rows h ≡ is_loop form t last → h < length rows
unfolding view_of
head_in rows h form t last e = by (ltb h (length rows)) (ltb→lt h (length rows)) (nltb→le h (length rows))
  where
    by : (b : Bool) → (T b → h < length rows) → (T (not b) → length rows ≤ h) → h < length rows
    by true g k = g tt
    by false g k = absurd (let q : is_end ≡ is_loop form t last = sym (ap view_of (get_or-eq_default rows End {n = h} (k tt))) ∙ e in let z : ◌≡◌ {A = ℕ} 0 1 = cc in omega arith)

module _ (π : Prices) (some-ticks : 1 ≤ π.test) (rows : List RowKind) (matching_end_lem matching_head_lem : ℕ → ℕ) (fit : Partners rows matching_end_lem matching_head_lem) where
  abbrev R : ℕ
  R = length rows

  -- of a place at row i
  abbrev size : ℕ → Phase → State → ℕ
  size i ph s = s.left * (2 * R + 2) + (2 * (R - i) + phase_rank ph)

  -- forward to row j
  lower_to : (i j : ℕ) (ph : Phase) (s u : State) (c : TurnCounts) → i < j → j ≤ R → u.left ≤ s.left → Lower R (size i ph s) (to j fresh u c)
  unfolding rank
  lower_to i j ph s u c l m h =
      lower_more {m = record { row = j; phase = fresh; now = u; tally = c }} m (later_row (2 * R + 2) s.left u.left (2 * (R - j) + 1) (2 * (R - i) + phase_rank ph) h (omega arith))

  lower_exec : (i h : ℕ) (p : Plain) (ph : Phase) (s : State) (c d : TurnCounts) (j : ℕ) (ph' : Phase) → j ≤ R → 2 * (R - j) + phase_rank ph' < 2 * (R - i) + phase_rank ph
      → Lower R (size i ph s) (outcome (exec π h p s) c (λ u. to j ph' u d))
  unfolding outcome rank Fewer
  lower_exec i h p ph s c d j ph' m l = by (exec π h p s) (exec_less π s.left h p s (omega arith))
    where
      by : (o : Out) → Thru (Fewer π s.left) o → Lower R (size i ph s) (outcome o c (λ u. to j ph' u d))
      by (go u es) (went f) = lower_more m (later_row (2 * R + 2) s.left u.left _ _ f l)
      by (halt e k u es) f = lower_over

  -- to a test
  lower_test : (i e : ℕ) (ph : Phase) (s : State) (c : TurnCounts) → e < R → 2 * (R - e) < 2 * (R - i) + phase_rank ph → Lower R (size i ph s) (to e testing s c)
  unfolding rank
  lower_test i e ph s c m l = lower_more {m = record { row = e; phase = testing; now = s; tally = c }} (omega arith) (later_row (2 * R + 2) s.left s.left _ _ (omega arith) (omega arith))

  lower_tests : (i h e : ℕ) (t : Test) (ph : Phase) (s : State) (c : TurnCounts) → h < R → i ≤ e → e < R → Lower R (size i ph s) (tests π h e t s c)
  unfolding tests paid rank
  lower_tests i h e t ph s c l m q =
      lower_chosen (leb π.test s.left)
      (λ b. let le = leb→le π.test s.left b in
      decide_elim (Lower R _) (holds t s.store)
      (λ _. lower_more l (fewer_ticks (2 * R + 2) s.left (s.left - π.test) (2 * (R - suc h) + 1) (2 * (R - i) + phase_rank ph) (omega arith) (omega arith)))
      (λ _. lower_to i (suc e) ph s _ c (omega arith) q (omega arith))
      lower_over)
      (λ _. lower_over)

  lower_picked : (i j : ℕ) (l : List ℕ) (ph : Phase) (s u : State) (c : TurnCounts) → i < R → i < j → j ≤ R → u.left ≤ s.left → Lower R (size i ph s) (picked i j l u c)
  unfolding picked
  lower_picked i j [] ph s u c h k m f = lower_over
  lower_picked i j (x ∷ xs) ph s u c h k m f = lower_chosen (eqb x 0) (λ _. lower_to i j ph s _ c k m f) (λ _. lower_to i (suc i) ph s _ c (omega arith) h f)

  lower_end : (w : View) (h e : ℕ) (ph : Phase) (s : State) (c : TurnCounts) → view_at rows h ≡ w → e < R → Lower R (size e ph s) (on_end π rows matching_end_lem matching_head_lem w h e ph s c)
  unfolding on_end
  lower_end (is_plain p) h e ph s c q l = lower_to e (suc e) ph s s c (omega arith) l (omega arith)
  lower_end is_pick h e ph s c q l = lower_to e (suc e) ph s s c (omega arith) l (omega arith)
  lower_end is_else h e ph s c q l = lower_to e (suc e) ph s s c (omega arith) l (omega arith)
  lower_end is_end h e ph s c q l = lower_to e (suc e) ph s s c (omega arith) l (omega arith)
  lower_end (is_loop form t last) h e testing s c q l = lower_tests e h e t testing s c (head_in rows h form t last q) (omega arith) l
  lower_end (is_loop form t no_step) h e fresh s c q l = lower_test e e fresh s c (omega arith) (omega arith)
  lower_end (is_loop form t (step_by p)) h e fresh s c q l = lower_exec e h p fresh s c c e testing (omega arith) (omega arith)

  lower_row : (w : View) (i : ℕ) (ph : Phase) (s : State) (c : TurnCounts) → i < R → (Opens w → (i < matching_end_lem i) × (matching_end_lem i < R)) → Lower R (size i ph s) (on_row π rows matching_end_lem matching_head_lem w i ph s c)
  unfolding on_row paid
  lower_row (is_plain p) i ph s c l f = lower_exec i i p ph s c c (suc i) fresh l (omega arith)
  lower_row is_pick i ph s c l f =
      let (a, b) = f tt in
      lower_chosen (leb π.pick s.left) (λ _. lower_picked i (suc (matching_end_lem i)) s.picks ph s _ c l (omega arith) b (omega arith)) (λ _. lower_over)
  lower_row is_else i ph s c l f = let (a, b) = f tt in lower_to i (suc (matching_end_lem i)) ph s s c (omega arith) b (omega arith)
  lower_row is_end i ph s c l f = lower_end _ (matching_head_lem i) i ph s c refl l
  lower_row (is_loop while t last) i ph s c l f = let (a, b) = f tt in lower_test i (matching_end_lem i) ph s (begin i c) b (omega arith)
  lower_row (is_loop hold t last) i ph s c l f = let (a, b) = f tt in lower_test i (matching_end_lem i) ph s (begin i c) b (omega arith)
  lower_row (is_loop do_while t last) i ph s c l f = lower_to i (suc i) ph s s _ (omega arith) l (omega arith)
  lower_row (is_loop (for x) t last) i ph s c l f = let (a, b) = f tt in lower_exec i i _ ph s c (begin i c) (matching_end_lem i) testing (omega arith) (omega arith)

  -- one step: ended, or at a row of at most R with a lower measure
  falls : (m : Place) → Lower R (rank R m) (next π rows matching_end_lem matching_head_lem m)
  unfolding next rank
  falls m = lower_chosen (ltb m.row R)
      (λ b. let l = ltb→lt m.row R b in lower_row (view_at rows m.row) m.row m.phase m.now m.tally l (fit.ahead m.row l))
      (λ _. lower_over)

  pub falls_more : (m m' : Place) → next π rows matching_end_lem matching_head_lem m ≡ more m' → (m'.row ≤ R) × (rank R m' < rank R m)
  falls_more m m' e = by (subst (Lower R (rank R m)) e (falls m))
    where
      by : {m' : Place} → Lower R (rank R m) (more m') → (m'.row ≤ R) × (rank R m' < rank R m)
      by (lower_more l k) = (l, k)

-- ---- in numbers of steps
module _ (π : Prices) (some-ticks : 1 ≤ π.test) (rows : List RowKind) (matching_end_lem matching_head_lem : ℕ → ℕ) (fit : Partners rows matching_end_lem matching_head_lem) where
  reach_steps : (k : ℕ) {a r : Next} → Reach π rows matching_end_lem matching_head_lem a r → Lower (length rows) k a → (n : ℕ) × (steps π rows matching_end_lem matching_head_lem n a ≡ r) × (n ≤ k)
  unfolding steps
  reach_steps k here l = (0, refl, omega arith)
  reach_steps k (step {m = m} h) (lower_more j l) =
      let (n, e, b) = reach_steps (rank (length rows) m) h (falls π some-ticks rows matching_end_lem matching_head_lem fit m) in
      (suc n, e, omega arith)

  -- n steps after m steps; one answer comes, by however many
  pub steps_over : (n : ℕ) (e : Ending) (i : ℕ) (s : State) (c : TurnCounts) → steps π rows matching_end_lem matching_head_lem n (over e i s c) ≡ over e i s c
  unfolding steps
  steps_over zero e i s c = refl
  steps_over (suc n) e i s c = refl

  pub steps_add : (m n : ℕ) (a : Next) → steps π rows matching_end_lem matching_head_lem (m + n) a ≡ steps π rows matching_end_lem matching_head_lem n (steps π rows matching_end_lem matching_head_lem m a)
  unfolding steps
  steps_add zero n a = let e : 0 + n ≡ n = omega arith in ap (λ k. steps π rows matching_end_lem matching_head_lem k a) e
  steps_add (suc m) n (more p) =
      let e : suc m + n ≡ suc (m + n) = omega arith in
      ap (λ k. steps π rows matching_end_lem matching_head_lem k (more p)) e ∙ steps_add m n (next π rows matching_end_lem matching_head_lem p)
  steps_add (suc m) n (over e i s c) = steps_over (suc m + n) e i s c ∙ sym (steps_over n e i s c)

  -- past the last row
  last_step : (s : State) (c : TurnCounts) → Reach π rows matching_end_lem matching_head_lem (to (length rows) fresh s c) (over Ended (length rows) s c)
  last_step s c = step (subst (λ z. Reach π rows matching_end_lem matching_head_lem z (over Ended (length rows) s c)) (sym (next_past π rows matching_end_lem matching_head_lem (length rows) fresh s c (omega arith))) here)

  finish : {lo : ℕ} {c : TurnCounts} {a : Next} {o : Out} → Does π rows matching_end_lem matching_head_lem (to (length rows) fresh) lo c [] a o → (r : Next) × Reach π rows matching_end_lem matching_head_lem a r × Finished (length rows) o r
  finish (goes {s = s} {d = d} h t e) = (_, reach_trans π rows matching_end_lem matching_head_lem h (last_step s d), at_the_end t)
  finish (halts h t) = (_, h, at_row t)

  module _ (tree : Block) (whole : build 0 rows ≡ parts (to_end (length rows) tree) []) where
    last_end : end_at rows 0 ≡ length rows
    unfolding end_at
    last_end = ap end_of whole

    -- the machine, started at row 0, ends as `run` on the tree says, in at most as many steps as its measure and one
    pub row_run : (s : State) → (n : ℕ) × (r : Next) × (steps π rows matching_end_lem matching_head_lem n (more (start s)) ≡ r) × (n ≤ suc (rank (length rows) (start s))) × Finished (length rows) (run π (tree_of rows) s) r
    unfolding sum_at most_at
    row_run s =
        let whole_run = sim π rows matching_end_lem matching_head_lem some-ticks tree whole fit (length rows) 0 (omega arith) (omega arith) s _ [] (tells λ p. (refl, refl)) in
        let (r, h, f) = finish (subst (λ z. Does π rows matching_end_lem matching_head_lem (to (length rows) fresh) 0 (start s).tally [] (more (start s)) (run π z s)) (block_whole rows tree whole)
        (subst (λ z. Does π rows matching_end_lem matching_head_lem (to z fresh) 0 (start s).tally [] (more (start s)) (run π (block_at rows 0) s)) last_end whole_run)) in
        let (n, e, b) = reach_steps (suc (rank (length rows) (start s))) h (lower_more (omega arith) (omega arith)) in
        (n, r, e, b, f)

    -- whenever it has ended, it is with that
    pub row_ends : (s : State) (n : ℕ) (e : Ending) (i : ℕ) (t : State) (c : TurnCounts) → steps π rows matching_end_lem matching_head_lem n (more (start s)) ≡ over e i t c
        → Finished (length rows) (run π (tree_of rows) s) (over e i t c)
    row_ends s n e i t c q =
        let (m, r, p, _, f) = row_run s in
        subst (λ z. Finished (length rows) (run π (tree_of rows) s) z) (by r (run π (tree_of rows) s) m p f) f
      where
        meet : (m : ℕ) (f : Ending) (j : ℕ) (u : State) (d : TurnCounts) → steps π rows matching_end_lem matching_head_lem m (more (start s)) ≡ over f j u d → over f j u d ≡ over e i t c
        meet m f j u d p =
            let swap : m + n ≡ n + m = omega arith in
            sym (steps_over n f j u d)
            ∙ ap (steps π rows matching_end_lem matching_head_lem n) (sym p)
            ∙ sym (steps_add m n _)
            ∙ ap (λ k. steps π rows matching_end_lem matching_head_lem k (more (start s))) swap
            ∙ steps_add n m _
            ∙ ap (steps π rows matching_end_lem matching_head_lem m) q
            ∙ steps_over m e i t c

        by : (r : Next) (o : Out) (m : ℕ) → steps π rows matching_end_lem matching_head_lem m (more (start s)) ≡ r → Finished (length rows) o r → r ≡ over e i t c
        by (more _) o m p f = elim f [ ]
        by (over f j u d) o m p _ = meet m f j u d p

    -- in terms of the answer
    pub row_answer : (store : Store) (picks : List ℕ) (allowance n : ℕ) (e : Ending) (i : ℕ) (t : State) (c : TurnCounts)
        → steps π rows matching_end_lem matching_head_lem n (more (start (record { store = store; left = allowance; picks = picks }))) ≡ over e i t c
        → Replies (run_tree π (length rows) (tree_of rows) store picks allowance) allowance picks e i t c
    unfolding run_tree answer
    row_answer store picks allowance n e i t c q = by _ (row_ends _ n e i t c q)
      where
        by : {e : Ending} {i : ℕ} {t : State} {c : TurnCounts} (o : Out) → Finished (length rows) o (over e i t c) → Replies (answer (length rows) allowance picks o) allowance picks e i t c
        by (go s es) (at_the_end (tells f)) = record { ending = refl; row = refl; ticks = refl; used = refl; store = refl; sums = λ p. (f p).0; mosts = λ p. (f p).1 }
        by (halt f j s es) (at_row (tells g)) = record { ending = refl; row = refl; ticks = refl; used = refl; store = refl; sums = λ p. (g p).0; mosts = λ p. (g p).1 }
