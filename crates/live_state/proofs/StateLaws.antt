-- Laws of the state: its questions part by part.
use mathlib.Core.Path.{◌≡◌, refl, sym, ◌∙◌, ap, subst}
use mathlib.Core.Bool.{Bool, true, false, cond, ◌&&◌}
use mathlib.Core.List.{List, [], ◌∷◌, ◌++◌, map}
use Prim.Native.Nat.{ℕ, zero, suc, ◌+◌, ◌-◌, ◌*◌, ◌≤◌, ◌<◌}
use native.Mathlib.Numerals.{add-one}
use native.Mathlib.Omega.{arith}
use borrow.Author.Tests.{le-ltb, lt-ltb, le-leb, lt-leb, eq-eqb, ne_eqb}
use lib.Dec.{leb, ltb, eqb}
use lib.ListN.{length, get_or, take, drop, length-take, length-drop, drop_of_length-le}
use lib.Seq.{take_all, drop-cons, drop-drop, get_or-drop}
use Rattle.rules.specs.declared.Kind.{Kind}
use Rattle.rules.specs.declared.LoopLine.{LoopLine}
use Rattle.rules.specs.declared.Prices.{Prices}
use Rattle.rules.specs.Figures.{Line}
use Rattle.rules.specs.Report.{line_of, lines_of}
use Rattle.rules.specs.Verdicts.{Verdict}
use Rattle.rules.specs.Verdicts.{passed, refused}
use Rattle.rules.specs.Blocks.{RowKind, View, is_plain, is_pick, is_else, is_end, is_loop, view_of, view_at, kind_of}
use Rattle.rules.specs.Calls.{is_loop_row}
use Rattle.rules.specs.Scripts.{Script, report_ticks, report_lines}
use Rattle.rules.proofs.Laws.{kinds_first, kind_of_lem}
use Rattle.rules_machine.specs.RowMachine.{pairs}
use Rattle.rules_live.specs.Live.{matching_head}
use Rattle.rules_frames.specs.InTime.{dearest}
use Rattle.rules_live.specs.LiveState.{is_cue, is_pick_row, ends_loop, row_fits, phase_fits, left_fits, head_checks, zero_checks, loop_checks, state_checks, first_no, state_verdict}
use Rattle.analysis_lines.specs.Coded.{line_in, lines_in, first_lines}
use Rattle.rules_live.specs.LiveCalls.{and_then}
use Rattle.table.specs.Code.{partner_in, numbers_at, rows_of, kind_at}
use Rattle.table.specs.Paired.{EndRow, script_rows}
use Rattle.table.proofs.Laws.{rows_length}
use Rattle.live_state.specs.Numbers.{is_end_number, ends_loop_at, RowsIn, StateAsked}

-- ---- the questions part by part
pub first_part : (i j : ℕ) (xs bs : List Bool) → j ≡ i + length xs → first_no i (xs ++ bs) ≡ and_then (first_no i xs) (first_no j bs)
unfolding first_no and_then
first_part i j [] bs e = ap (λ n. first_no n bs) (let z : i ≡ j = omega arith in z)
first_part i j (true ∷ xs) bs e = first_part (suc i) j xs bs (omega arith)
first_part i j (false ∷ xs) bs e = refl

-- each number in turn
module _ (i : ℕ) (a b c : Bool) where
  pub third_no : (e : a ≡ true) → b ≡ true → c ≡ false → refused 21 (i + 2) ≡ first_no i (a ∷ b ∷ c ∷ [])
  unfolding first_no
  third_no x y z = rw (x, y, z) (ap (refused 21) (let w : i + 2 ≡ suc (suc i) = omega arith in w))

  pub second_no : a ≡ true → b ≡ false → refused 21 (i + 1) ≡ first_no i (a ∷ b ∷ c ∷ [])
  unfolding first_no
  second_no x y = rw (x, y) (ap (refused 21) (let w : i + 1 ≡ suc i = omega arith in w))

  pub first_no_lem : a ≡ false → refused 21 (i + 0) ≡ first_no i (a ∷ b ∷ c ∷ [])
  unfolding first_no
  first_no_lem x = rw x (ap (refused 21) (let w : i + 0 ≡ i = omega arith in w))

  pub three_yes : a ≡ true → b ≡ true → c ≡ true → passed ≡ first_no i (a ∷ b ∷ c ∷ [])
  unfolding first_no
  three_yes x y z = rw (x, y, z)

module _ (a b c d e f : Bool) where
  abbrev six : List Bool
  six = a ∷ b ∷ c ∷ d ∷ e ∷ f ∷ []

  pub no_0 : a ≡ false → refused 21 0 ≡ first_no 0 six
  unfolding first_no
  no_0 p = rw p

  pub no_1 : a ≡ true → b ≡ false → refused 21 1 ≡ first_no 0 six
  unfolding first_no
  no_1 p q = rw (p, q)

  pub no_2 : a ≡ true → b ≡ true → c ≡ false → refused 21 2 ≡ first_no 0 six
  unfolding first_no
  no_2 p q r = rw (p, q, r)

  pub no_3 : a ≡ true → b ≡ true → c ≡ true → d ≡ false → refused 21 3 ≡ first_no 0 six
  unfolding first_no
  no_3 p q r s = rw (p, q, r, s)

  pub no_4 : a ≡ true → b ≡ true → c ≡ true → d ≡ true → e ≡ false → refused 21 4 ≡ first_no 0 six
  unfolding first_no
  no_4 p q r s t = rw (p, q, r, s, t)

  pub no_5 : a ≡ true → b ≡ true → c ≡ true → d ≡ true → e ≡ true → f ≡ false → refused 21 5 ≡ first_no 0 six
  unfolding first_no
  no_5 p q r s t u = rw (p, q, r, s, t, u)

  pub six_yes : a ≡ true → b ≡ true → c ≡ true → d ≡ true → e ≡ true → f ≡ true → passed ≡ first_no 0 six
  unfolding first_no
  six_yes p q r s t u = rw (p, q, r, s, t, u)

-- what is left
pub left_held : (π : Prices) (status n d : ℕ) → status ≤ 2 → d ≡ dearest π → ltb n d ≡ left_fits π status n
unfolding left_fits
left_held π status n d h e = rw (le-leb status 2 h) (ap (ltb n) e)

pub left_done : (π : Prices) (status n : ℕ) → 2 < status → eqb n 0 ≡ left_fits π status n
unfolding left_fits
left_done π status n h = rw (lt-leb status 2 h)

-- zeros, from place j on
abbrev pub zeros_to : ℕ → List ℕ → ℕ → Verdict
zeros_to to ns j = first_no j (zero_checks (take (to - j) (drop j ns)))

zeros_at : (to : ℕ) (ns : List ℕ) (j : ℕ) → j < to → to ≤ length ns → zeros_to to ns j ≡ first_no j (eqb 0 (get_or ns j 0) ∷ zero_checks (take (to - suc j) (drop (suc j) ns)))
zeros_at to ns j h l =
    ap (λ n. first_no j (zero_checks (take n (drop j ns)))) (let w : to - j ≡ suc (to - suc j) = omega arith in w)
    ∙ ap (λ m. first_no j (zero_checks (take (suc (to - suc j)) m))) (drop-cons ns j 0 (omega arith))

pub zeros_on : (to : ℕ) (ns : List ℕ) (j : ℕ) → j < to → to ≤ length ns → get_or ns j 0 ≡ 0 → zeros_to to ns j ≡ zeros_to to ns (j + 1)
unfolding first_no
zeros_on to ns j h l e = zeros_at to ns j h l ∙ rw (e, add-one j)

pub zeros_no : (to : ℕ) (ns : List ℕ) (j : ℕ) → j < to → to ≤ length ns → (get_or ns j 0 ≡ 0 → ⊥) → zeros_to to ns j ≡ refused 21 j
unfolding first_no
zeros_no to ns j h l f = zeros_at to ns j h l ∙ rw (ne_eqb 0 (get_or ns j 0) (λ e. f (sym e)))

pub zeros_all : (to : ℕ) (ns : List ℕ) (j : ℕ) → to ≤ j → zeros_to to ns j ≡ passed
unfolding first_no
zeros_all to ns j h = ap (λ n. first_no j (zero_checks (take n (drop j ns)))) (let w : to - j ≡ 0 = omega arith in w)

-- ---- the loops
line_cons : (t : List (List ℕ)) (n k : ℕ) → k < n → n ≤ length t → drop k (first_lines t n) ≡ line_of (get_or (lines_in t) k (line_in [])) ∷ drop (suc k) (first_lines t n)
unfolding lines_of
line_cons [] n k h l = absurd (omega arith)
line_cons (x ∷ t) zero k h l = absurd (omega arith)
line_cons (x ∷ t) (suc n) zero h l = refl
line_cons (x ∷ t) (suc n) (suc k) h l = line_cons t n k (omega arith) (omega arith)

pub lines_long : (t : List (List ℕ)) (n : ℕ) → n ≤ length t → length (first_lines t n) ≡ n
unfolding lines_of
lines_long t zero h = refl
lines_long [] (suc n) h = absurd (omega arith)
lines_long (x ∷ t) (suc n) h = ap suc (lines_long t n (omega arith))

-- from loop k on
abbrev pub loops_on : List (List ℕ) → ℕ → List ℕ → ℕ → Verdict
loops_on t n ns k = first_no (16 + 3 * k) (loop_checks (drop k (first_lines t n)) (drop (16 + 3 * k) ns))

module _ (t : List (List ℕ)) (n : ℕ) (ns : List ℕ) (k : ℕ) (h : k < n) (l : n ≤ length t) where
  abbrev one : Line
  one = line_of (get_or (lines_in t) k (line_in []))

  loops_at : loops_on t n ns k ≡ and_then (first_no (16 + 3 * k) (loop_checks (one ∷ []) (drop (16 + 3 * k) ns))) (loops_on t n ns (k + 1))
  unfolding loop_checks
  loops_at =
      ap (λ ls. first_no (16 + 3 * k) (loop_checks ls (drop (16 + 3 * k) ns))) (line_cons t n k h l)
      ∙ first_part (16 + 3 * k) (16 + 3 * (k + 1)) (loop_checks (one ∷ []) (drop (16 + 3 * k) ns)) (loop_checks (drop (suc k) (first_lines t n)) (drop 3 (drop (16 + 3 * k) ns))) (omega arith)
      ∙ ap (λ m. and_then (first_no (16 + 3 * k) (loop_checks (one ∷ []) (drop (16 + 3 * k) ns))) (first_no (16 + 3 * (k + 1)) m))
      (λ i. loop_checks (drop (sym (add-one k) i) (first_lines t n)) ((drop-drop 3 (16 + 3 * k) ns ∙ ap (λ m. drop m ns) (let w : 16 + 3 * k + 3 ≡ 16 + 3 * (k + 1) = omega arith in w)) i))

  module _ (line : LoopLine) (is : line ≡ get_or (lines_in t) k (line_in [])) (v : Verdict) (asked : v ≡ first_no (16 + 3 * k) (loop_checks (line_of line ∷ []) (drop (16 + 3 * k) ns))) where
    loops_by : (w : Verdict) → v ≡ w → loops_on t n ns k ≡ and_then w (loops_on t n ns (k + 1))
    loops_by w e =
        loops_at ∙ ap (λ z. and_then z (loops_on t n ns (k + 1)))
        (ap (λ z. first_no (16 + 3 * k) (loop_checks (line_of z ∷ []) (drop (16 + 3 * k) ns))) (sym is) ∙ sym asked ∙ e)

    pub loops_on_lem : v ≡ passed → loops_on t n ns k ≡ loops_on t n ns (k + 1)
    unfolding and_then
    loops_on_lem e = loops_by passed e

    pub loops_no : {q p : ℕ} → v ≡ refused q p → loops_on t n ns k ≡ v
    unfolding and_then
    loops_no {q} {p} e = loops_by (refused q p) e ∙ sym e

pub loops_all : (t : List (List ℕ)) (n : ℕ) (ns : List ℕ) (k : ℕ) → n ≤ length t → n ≤ k → loops_on t n ns k ≡ passed
unfolding first_no loop_checks
loops_all t n ns k l h = let w : length (first_lines t n) ≤ k = omega (arith, lines_long t n l) in ap (λ ls. first_no (16 + 3 * k) (loop_checks ls (drop (16 + 3 * k) ns))) (drop_of_length-le (first_lines t n) w)

-- the three of a loop
module _ (ns : List ℕ) (j : ℕ) (line : LoopLine) where
  numbers_at_lem : (k : ℕ) → get_or (drop j ns) k 0 ≡ get_or ns (j + k) 0
  numbers_at_lem k = get_or-drop j ns k 0

  pub loop_is : loop_checks (line_of line ∷ []) (drop j ns)
      ≡ leb (get_or ns (j + 0) 0) line.turns ∷ (leb (get_or ns (j + 0) 0) (get_or ns (j + 1) 0) && leb (get_or ns (j + 1) 0) line.total)
      ∷ (leb (get_or ns (j + 0) 0) (get_or ns (j + 2) 0) && (leb (get_or ns (j + 2) 0) (get_or ns (j + 1) 0) && leb (get_or ns (j + 2) 0) line.turns)) ∷ []
  unfolding loop_checks
  loop_is = rw (numbers_at_lem 0, numbers_at_lem 1, numbers_at_lem 2)

loops_checked : (ls : List Line) (ns : List ℕ) → length (loop_checks ls ns) ≡ 3 * length ls
unfolding loop_checks
loops_checked [] ns = refl
loops_checked (l ∷ ls) ns = let e : length (loop_checks ls (drop 3 ns)) ≡ 3 * length ls = loops_checked ls (drop 3 ns) in omega arith

zeros_checked : (ns : List ℕ) → length (zero_checks ns) ≡ length ns
zeros_checked [] = refl
zeros_checked (n ∷ ns) = ap suc (zeros_checked ns)

-- 21 of a state of 64 numbers
module _ {π : Prices} {script : Script} {t : List ℕ} {count total : ℕ} {table : List (List ℕ)} {loops : ℕ} (g : StateAsked π script t count total table loops) (ns : List ℕ) where
  pub not_64 : (length ns ≡ 64 → ⊥) → state_verdict π script ns ≡ refused 21 64
  unfolding state_verdict
  not_64 f = rw (ne_eqb (length ns) 64 f)

  module _ (size : length ns ≡ 64) where
    loops_are : length (report_lines script) ≡ loops
    loops_are = ap length (sym g.lines) ∙ lines_long table loops (omega (arith, g.few, g.long))

    rest_is : drop (16 + 3 * length (report_lines script)) ns ≡ take (64 - (16 + 3 * loops)) (drop (16 + 3 * loops) ns)
    rest_is = ap (λ n. drop (16 + 3 * n) ns) loops_are ∙ sym (take_all (64 - (16 + 3 * loops)) (drop (16 + 3 * loops) ns) (omega (arith, length-drop (16 + 3 * loops) ns)))

    in_parts : state_verdict π script ns
        ≡ and_then (first_no 0 (head_checks π script total ns)) (and_then (zeros_to 16 ns 6) (and_then (loops_on table loops ns 0) (zeros_to 64 ns (16 + 3 * loops))))
    unfolding state_verdict state_checks head_checks
    in_parts =
        ap (λ b. cond b (first_no 0 (state_checks π script ns)) (refused 21 64)) (eq-eqb (length ns) 64 size)
        ∙ first_part 0 6 (head_checks π script (report_ticks π script) ns) _ refl
        ∙ (λ i. and_then (first_no 0 (head_checks π script (sym g.ticks i) ns)) (gap i))
      where
        after : first_no 16 (loop_checks (report_lines script) (drop 16 ns) ++ zero_checks (drop (16 + 3 * length (report_lines script)) ns)) ≡ and_then (loops_on table loops ns 0) (zeros_to 64 ns (16 + 3 * loops))
        after =
            first_part 16 (16 + 3 * loops) (loop_checks (report_lines script) (drop 16 ns)) _ (omega (arith, loops_checked (report_lines script) (drop 16 ns), loops_are))
            ∙ (λ i. and_then (first_no 16 (loop_checks (sym g.lines i) (drop 16 ns))) (first_no (16 + 3 * loops) (zero_checks (rest_is i))))

        gap : first_no 6 (zero_checks (take 10 (drop 6 ns)) ++ (loop_checks (report_lines script) (drop 16 ns) ++ zero_checks (drop (16 + 3 * length (report_lines script)) ns)))
            ≡ and_then (zeros_to 16 ns 6) (and_then (loops_on table loops ns 0) (zeros_to 64 ns (16 + 3 * loops)))
        gap =
            first_part 6 16 (zero_checks (take 10 (drop 6 ns))) _ (omega (arith, zeros_checked (take 10 (drop 6 ns)), length-take 10 (drop 6 ns), length-drop 6 ns))
            ∙ ap (and_then (zeros_to 16 ns 6)) after

    -- refused by one of the parts, or by none before the last
    module _ (v : Verdict) (head : v ≡ first_no 0 (head_checks π script total ns)) where
      by_head : (w : Verdict) → v ≡ w → state_verdict π script ns ≡ and_then w (and_then (zeros_to 16 ns 6) (and_then (loops_on table loops ns 0) (zeros_to 64 ns (16 + 3 * loops))))
      by_head w e = in_parts ∙ ap (λ z. and_then z (and_then (zeros_to 16 ns 6) (and_then (loops_on table loops ns 0) (zeros_to 64 ns (16 + 3 * loops))))) (sym head ∙ e)

      pub head_no : {q p : ℕ} → v ≡ refused q p → v ≡ state_verdict π script ns
      unfolding and_then
      head_no {q} {p} e = e ∙ sym (by_head (refused q p) e)

      module _ (yes : v ≡ passed) (u : Verdict) (nothing : u ≡ zeros_to 16 ns 6) where
        by_gap : (w : Verdict) → u ≡ w → state_verdict π script ns ≡ and_then w (and_then (loops_on table loops ns 0) (zeros_to 64 ns (16 + 3 * loops)))
        unfolding and_then
        by_gap w e = by_head passed yes ∙ ap (λ z. and_then z (and_then (loops_on table loops ns 0) (zeros_to 64 ns (16 + 3 * loops)))) (sym nothing ∙ e)

        pub gap_no : {q p : ℕ} → u ≡ refused q p → u ≡ state_verdict π script ns
        unfolding and_then
        gap_no {q} {p} e = e ∙ sym (by_gap (refused q p) e)

        module _ (yes' : u ≡ passed) (x : Verdict) (counts : x ≡ loops_on table loops ns 0) where
          by_loops : (w : Verdict) → x ≡ w → state_verdict π script ns ≡ and_then w (zeros_to 64 ns (16 + 3 * loops))
          unfolding and_then
          by_loops w e = by_gap passed yes' ∙ ap (λ z. and_then z (zeros_to 64 ns (16 + 3 * loops))) (sym counts ∙ e)

          pub counts_no : {q p : ℕ} → x ≡ refused q p → x ≡ state_verdict π script ns
          unfolding and_then
          counts_no {q} {p} e = e ∙ sym (by_loops (refused q p) e)

          pub rest_last : x ≡ passed → (y : Verdict) → y ≡ zeros_to 64 ns (16 + 3 * loops) → y ≡ state_verdict π script ns
          unfolding and_then
          rest_last e y rest = rest ∙ sym (by_loops passed e)

-- ---- the row
ends_by : (v h : View) → is_end_number v ≡ true → ends_loop v h ≡ is_loop_row h
unfolding ends_loop
ends_by (is_plain p) h e = absurd (let z : ◌≡◌ {A = ℕ} 0 1 = cc in omega arith)
ends_by is_pick h e = absurd (let z : ◌≡◌ {A = ℕ} 0 1 = cc in omega arith)
ends_by is_else h e = absurd (let z : ◌≡◌ {A = ℕ} 0 1 = cc in omega arith)
ends_by is_end h e = refl
ends_by (is_loop form test last) h e = absurd (let z : ◌≡◌ {A = ℕ} 0 1 = cc in omega arith)

ends_not : (v h : View) → is_end_number v ≡ false → ends_loop v h ≡ false
unfolding ends_loop
ends_not (is_plain p) h e = refl
ends_not is_pick h e = refl
ends_not is_else h e = refl
ends_not is_end h e = absurd (let z : ◌≡◌ {A = ℕ} 0 1 = cc in omega arith)
ends_not (is_loop form test last) h e = refl

end_view : (v : View) → is_end_number v ≡ true → v ≡ is_end
end_view (is_plain p) e = absurd (let z : ◌≡◌ {A = ℕ} 0 1 = cc in omega arith)
end_view is_pick e = absurd (let z : ◌≡◌ {A = ℕ} 0 1 = cc in omega arith)
end_view is_else e = absurd (let z : ◌≡◌ {A = ℕ} 0 1 = cc in omega arith)
end_view is_end e = refl
end_view (is_loop form test last) e = absurd (let z : ◌≡◌ {A = ℕ} 0 1 = cc in omega arith)

module _ {script : Script} {t : List ℕ} {count : ℕ} (g : RowsIn script t count) where
  pub rows_long : length script.rows ≡ count
  rows_long = ap length g.rows ∙ kinds_first g.text count (rows_of t) (omega (arith, g.size, g.table.size, rows_length t))

  pub row_view : (i : ℕ) → i < count → view_at script.rows i ≡ view_of (kind_of g.text (kind_at (rows_of t) i))
  row_view i h = ap (λ rs. view_at rs i) g.rows ∙ ap view_of (kind_of_lem g.text count (rows_of t) i h)

  pub fits_going : (status i : ℕ) → status ≡ 0 → leb i count ≡ row_fits script status i
  unfolding row_fits
  fits_going status i e = rw e (ap (leb i) (sym rows_long))

  pub fits_ended : (status i : ℕ) → status ≡ 3 → eqb i count ≡ row_fits script status i
  unfolding row_fits
  fits_ended status i e = rw e (ap (eqb i) (sym rows_long))

  inside : {i : ℕ} → i < count → ltb i (length script.rows) ≡ true
  inside {i} h = lt-ltb i (length script.rows) (omega (arith, rows_long))

  outside : {i : ℕ} → count ≤ i → ltb i (length script.rows) ≡ false
  outside {i} h = le-ltb i (length script.rows) (omega (arith, rows_long))

  pub fits_past : (status i : ℕ) → (status ≡ 0 → ⊥) → (status ≡ 3 → ⊥) → count ≤ i → false ≡ row_fits script status i
  unfolding row_fits
  fits_past zero i a b h = absurd (a refl)
  fits_past (suc zero) i a b h = ap (λ z. z && is_pick_row (view_at script.rows i)) (sym (outside h))
  fits_past (suc (suc zero)) i a b h = ap (λ z. z && is_cue (view_at script.rows i)) (sym (outside h))
  fits_past (suc (suc (suc zero))) i a b h = absurd (b refl)
  fits_past (suc (suc (suc (suc n)))) i a b h = sym (outside h)

  module _ (i : ℕ) (h : i < count) (k : Kind) (at : k ≡ kind_at (rows_of t) i) (b : Bool) where
    here : view_of (kind_of g.text k) ≡ view_at script.rows i
    here = ap (λ x. view_of (kind_of g.text x)) at ∙ sym (row_view i h)

    pub fits_waits : (status : ℕ) → status ≡ 1 → ((text : List ℕ) → b ≡ is_pick_row (view_of (kind_of text k))) → b ≡ row_fits script status i
    unfolding row_fits
    fits_waits status e f = rw e (f g.text ∙ ap is_pick_row here ∙ ap (λ z. z && is_pick_row (view_at script.rows i)) (sym (inside h)))

    pub fits_full : (status : ℕ) → status ≡ 2 → ((text : List ℕ) → b ≡ is_cue (view_of (kind_of text k))) → b ≡ row_fits script status i
    unfolding row_fits
    fits_full status e f = rw e (f g.text ∙ ap is_cue here ∙ ap (λ z. z && is_cue (view_at script.rows i)) (sym (inside h)))

    -- it is the `end` of a loop
    module _ (f : (text : List ℕ) → b ≡ is_end_number (view_of (kind_of text k))) where
      told : is_end_number (view_at script.rows i) ≡ b
      told = ap is_end_number (sym here) ∙ sym (f g.text)

      pub no_end : b ≡ false → false ≡ ends_loop_at script i
      no_end e = sym (ends_not (view_at script.rows i) _ (told ∙ e))

      module _ (e : b ≡ true) where
        at_the_end : EndRow (script_rows g.text (rows_of t) count) t ((pairs (script_rows g.text (rows_of t) count) count).head i) i
        at_the_end = g.table.ends i h (ap (λ rs. view_at rs i) (sym g.rows) ∙ end_view (view_at script.rows i) (told ∙ e))

        pub head_below : partner_in (numbers_at t i) < count
        head_below = omega (arith, at_the_end.below, at_the_end.partner)

        head_is : matching_head script i ≡ partner_in (numbers_at t i)
        head_is = (λ j. (pairs (g.rows j) (rows_long j)).head i) ∙ sym at_the_end.partner

        pub some_end : (p : ℕ) → p ≡ partner_in (numbers_at t i) → (x : Bool) → ((text : List ℕ) → x ≡ is_loop_row (view_of (kind_of text (kind_at (rows_of t) p)))) → x ≡ ends_loop_at script i
        some_end p q x y =
            y g.text ∙ ap is_loop_row (sym (row_view p (subst (λ z. z < count) (sym q) head_below)) ∙ ap (view_at script.rows) (q ∙ sym head_is))
            ∙ sym (ends_by (view_at script.rows i) (view_at script.rows (matching_head script i)) (told ∙ e))

  pub fits_range : (status i : ℕ) → (status ≡ 0 → ⊥) → (status ≡ 1 → ⊥) → (status ≡ 2 → ⊥) → (status ≡ 3 → ⊥) → i < count → true ≡ row_fits script status i
  unfolding row_fits
  fits_range zero i a b c d h = absurd (a refl)
  fits_range (suc zero) i a b c d h = absurd (b refl)
  fits_range (suc (suc zero)) i a b c d h = absurd (c refl)
  fits_range (suc (suc (suc zero))) i a b c d h = absurd (d refl)
  fits_range (suc (suc (suc (suc n)))) i a b c d h = sym (inside h)

  -- ---- a test
  pub phase_none : (status i due : ℕ) → due ≡ 0 → true ≡ phase_fits script status i due
  unfolding phase_fits
  phase_none status i due e = rw e

  pub phase_held : (status i due : ℕ) → (due ≡ 0 → ⊥) → (status ≡ 0 → ⊥) → false ≡ phase_fits script status i due
  unfolding phase_fits
  phase_held status i zero a b = absurd (a refl)
  phase_held zero i (suc n) a b = absurd (b refl)
  phase_held (suc status) i (suc n) a b = refl

  pub phase_odd : (status i due : ℕ) → (due ≡ 0 → ⊥) → status ≡ 0 → (due ≡ 1 → ⊥) → false ≡ phase_fits script status i due
  unfolding phase_fits
  phase_odd status i zero a s b = absurd (a refl)
  phase_odd zero i (suc zero) a s b = absurd (b refl)
  phase_odd zero i (suc (suc n)) a s b = refl
  phase_odd (suc status) i (suc n) a s b = absurd (omega arith)

  pub phase_past : (status i due : ℕ) → status ≡ 0 → due ≡ 1 → count ≤ i → false ≡ phase_fits script status i due
  unfolding phase_fits
  phase_past status i due s e h = rw (s, e) (ap (λ z. z && ends_loop_at script i) (sym (outside h)))

  pub phase_at_lem : (status i due : ℕ) → status ≡ 0 → due ≡ 1 → i < count → (b : Bool) → b ≡ ends_loop_at script i → b ≡ phase_fits script status i due
  unfolding phase_fits
  phase_at_lem status i due s e h b q = rw (s, e) (q ∙ ap (λ z. z && ends_loop_at script i) (sym (inside h)))
