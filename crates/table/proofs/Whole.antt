-- All rows of a script, put one by one: its table. Assumes nothing.
use mathlib.Core.Path.{◌≡◌, refl, sym, ap, subst, ◌∙◌}
use mathlib.Core.Bool.{Bool, true, false, cond, ◌&&◌}
use mathlib.Core.Logic.{inr}
use mathlib.Core.List.{List, [], ◌∷◌}
use Prim.Native.Nat.{ℕ, zero, suc, ◌+◌, ◌*◌, ◌≤◌, ◌<◌}
use native.Mathlib.Numerals.{add-one}
use native.Mathlib.Omega.{arith}
use lib.Dec.{ltb}
use borrow.Author.Tests.{ltb-true}
use lib.ListN.{length, get_or, take, drop}
use lib.Seq.{drop-cons, ext_get_or, get_or-take, length-take-le}
use Rattle.rules.specs.declared.Row.{Row}
use Rattle.rules.specs.Blocks.{View, is_plain, is_pick, is_else, is_end, is_loop, RowKind, End, view_of, view_at, kind_of, kinds_of, end_at}
use Rattle.rules.specs.Nesting.{in_loop, in_pick, in_else, Nest, Nested, nested, wrong, nest, opens, elses, ends, nest_row, and_rows, nest_rows}
use Rattle.rules.specs.Nesting
use Rattle.rules.specs.Calls.{is_loop_row, loop_rows}
use Rattle.rules.proofs.Laws.{no_true, kinds_first, kind_of_lem}
use Rattle.rules.proofs.TreeOf.{wrong_not, tree_of_lem}
use Rattle.rules.proofs.Rows.{block_loop}
use Rattle.rules.proofs.LinesAtHeads.{heads_few}
use Rattle.rules_machine.specs.RowMachine.{Opens, Partners, pairs}
use Rattle.rules_machine.proofs.PairsIn.{partners}
use Rattle.table.specs.declared.Open.{Open}
use Rattle.table.specs.Code.{partner_in, kind_in, numbers_at, no_row, kind_at, rows_of, Packed}
use Rattle.table.specs.Paired.{role_by, role_of, open_after, Room, stack_of, EndRow, PairedTo, Ready, NextPut, script_rows, Closing, Packable, LoopEnd, Table}
use Rattle.table.proofs.Laws.{kind_in_lem, rows_length}
use Rattle.table.proofs.Same.{test_of}
use Rattle.table.proofs.Pairing.{up_to, loop_place, role_text}

-- ---- the rows from j on nest, with the open blocks of the code
pub record Nests (script : List RowKind) (j : ℕ) (o : Open) : Type 0 where
  st : List Nesting.Open
  last : ℕ
  closes : nest_rows (drop j script) (record { open_blocks = st; loops = o.loops }) ≡ nest [] last
  size : length st ≡ o.depth
  pub deep : o.depth ≤ 8

-- a block opens, if question 7 allows it
opened : (b : Bool) (s last : Nest) (rest : Nest → Nested) → and_rows (cond b (nested s) (wrong 7)) rest ≡ nested last → (b ≡ true) × (rest s ≡ nested last)
unfolding and_rows
opened true s last rest e = (refl, e)
opened false s last rest e = wrong_not 7 last e

and_true : (a b : Bool) → (a && b) ≡ true → (a ≡ true) × (b ≡ true)
and_true true b e = (refl, e)
and_true false b e = no_true e

module _ (script : List RowKind) (j : ℕ) (o : Open) (deep : o.depth ≤ 8) (rest : Nest → Nested) (last : ℕ)
    (later : (o' : Open) (st : List Nesting.Open) → rest (record { open_blocks = st; loops = o'.loops }) ≡ nest [] last → length st ≡ o'.depth → o'.depth ≤ 8 → Nests script (suc j) o') where
  abbrev Goes : View → Type 0
  Goes v = Room (role_by v) o × Nests script (suc j) (open_after (role_by v) j o)

  else_goes : (st : List Nesting.Open) → and_rows (elses st o.loops) rest ≡ nest [] last → length st ≡ o.depth → Goes is_else
  unfolding elses and_rows
  else_goes [] e l = wrong_not 6 _ e
  else_goes (in_loop ∷ st) e l = wrong_not 6 _ e
  else_goes (in_else ∷ st) e l = wrong_not 6 _ e
  else_goes (in_pick ∷ st) e l = (omega arith, later _ (in_else ∷ st) e (omega arith) (omega arith))

  end_goes : (st : List Nesting.Open) → and_rows (ends st o.loops) rest ≡ nest [] last → length st ≡ o.depth → Goes is_end
  unfolding ends and_rows
  end_goes [] e l = wrong_not 6 _ e
  end_goes (x ∷ st) e l = (omega arith, later _ st e (omega arith) (omega arith))

  goes : (st : List Nesting.Open) → length st ≡ o.depth → (v : View) → and_rows (nest_row v (record { open_blocks = st; loops = o.loops })) rest ≡ nest [] last → Goes v
  unfolding nest_row opens and_rows
  goes st l (is_plain p) e = (tt, later o st e l deep)
  goes st l is_pick e =
      let (b, f) = opened (ltb (length st) 8) _ _ rest e in
      let h = ltb-true (length st) 8 b in
      (omega arith, later _ (in_pick ∷ st) f (omega arith) (omega arith))
  goes st l is_else e = else_goes st e l
  goes st l is_end e = end_goes st e l
  goes st l (is_loop form test x) e =
      let (b, f) = opened (ltb (length st) 8 && ltb o.loops 16) _ _ rest e in
      let (c, d) = and_true (ltb (length st) 8) (ltb o.loops 16) b in
      let h = ltb-true (length st) 8 c in
      let m = ltb-true o.loops 16 d in
      ((omega arith, m), later _ (in_loop ∷ st) (ap (λ n. rest (record { open_blocks = in_loop ∷ st; loops = n })) (add-one o.loops) ∙ f) (omega arith) (omega arith))

pub nests_next : (script : List RowKind) (j : ℕ) (o : Open) → j < length script → Nests script j o
    → Room (role_by (view_at script j)) o × Nests script (suc j) (open_after (role_by (view_at script j)) j o)
unfolding nest_rows
nests_next script j o h n =
    goes script j o n.deep (nest_rows (drop (suc j) script)) n.last (λ o' st e l d. record { st = st; last = n.last; closes = e; size = l; deep = d })
    n.st n.size (view_at script j)
    (ap (λ l. nest_rows l (record { open_blocks = n.st; loops = o.loops })) (sym (drop-cons script j End h)) ∙ n.closes)

-- ---- the first i rows are put
pub record Filled (rows : List Row) (count : ℕ) (t : List ℕ) (o : Open) (i : ℕ) : Type 0 where
  pub few : i ≤ count
  pub size : length t ≡ 1_024
  pub kinds : (k : ℕ) → k < i → kind_in (numbers_at t k) ≡ kind_at rows k
  pub text : List ℕ
  pub nests : Nests (script_rows text rows count) i o
  pub paired : (text : List ℕ) → PairedTo text (script_rows text rows count) i t o

module _ (rows : List Row) (count : ℕ) (t₀ : List ℕ) (long : length rows ≡ 256) (packable : Packable rows count t₀) where
  in_script : (text : List ℕ) (i : ℕ) → i < count → i < length (script_rows text rows count)
  in_script text i h = omega (arith, kinds_first text count rows (omega (arith, packable.few)))

  pub fill_none : (heads numbers : List ℕ) → Filled rows count t₀ (record { heads = heads; numbers = numbers; depth = 0; loops = 0 }) 0
  unfolding stack_of pairs loop_rows
  fill_none heads numbers = record {
    few = omega arith;
    size = packable.size;
    kinds = λ k l. absurd (omega arith);
    text = packable.closing.0;
    nests = record { st = []; last = packable.closing.1.0; closes = packable.closing.1.1; size = refl; deep = omega arith };
    paired = λ text. record {
      kinds = λ i l. absurd (omega arith);
      tests = λ i l. absurd (omega arith);
      stack = refl;
      waits = λ d l. absurd (omega arith);
      loops = refl;
      partners = λ i l q. absurd (omega arith);
      later = λ i l. refl;
      ends = λ e l w. absurd (omega arith);
    };
  }

  role_is : (text : List ℕ) (i : ℕ) → i < count → role_by (view_at (script_rows text rows count) i) ≡ role_of (kind_at rows i)
  role_is text i h = ap (λ x. role_by (view_of x)) (kind_of_lem text count rows i h) ∙ role_text text (kind_at rows i)

  pub fill_ready : (t : List ℕ) (o : Open) (i : ℕ) → i < count → Filled rows count t o i → Ready i (kind_at rows i) o t
  fill_ready t o i h f = record {
    small = omega (arith, packable.few);
    size = omega (arith, packable.few, f.size);
    fine = packable.fine i h;
    room = subst (λ r. Room r o) (role_is f.text i h) (nests_next (script_rows f.text rows count) i o (in_script f.text i h) f.nests).0;
    deep = f.nests.deep;
    below = λ d l. ((f.paired []).waits d l).below;
  }

  pub fill_more : (t t' : List ℕ) (o o' : Open) (i : ℕ) → i < count → Filled rows count t o i → NextPut i (kind_at rows i) o o' t t' → Filled rows count t' o' (i + 1)
  fill_more t t' o o' i h f n = rw (add-one i) (record {
    few = h;
    size = n.size ∙ f.size;
    kinds = up_to (λ k. kind_in (numbers_at t' k) ≡ kind_at rows k) i (λ k l. n.others k l ∙ f.kinds k l) n.here;
    text = f.text;
    nests = subst (Nests (script_rows f.text rows count) (suc i)) (ap (λ r. open_after r i o) (role_is f.text i h) ∙ sym n.blocks)
        (nests_next (script_rows f.text rows count) i o (in_script f.text i h) f.nests).1;
    paired = λ text. n.paired text (script_rows text rows count) (in_script text i h) (kind_of_lem text count rows i h) (f.paired text);
  })

-- ---- the whole table
module _ (text : List ℕ) (script : List RowKind) (t : List ℕ) (o : Open) (n : ℕ) (closed : nest_rows script (record { open_blocks = []; loops = 0 }) ≡ nest [] n) (b : PairedTo text script (length script) t o) where
  abbrev heads : ℕ → ℕ
  heads = (pairs script (length script)).head

  fit : Partners script (λ i. (pairs script (length script)).end i) heads
  fit = let (tree, whole) = tree_of_lem script n closed in partners script tree whole

  pub whole_partners : Partners script (λ i. partner_in (numbers_at t i)) heads
  whole_partners = record {
    matching_ends = λ i l q. b.partners i l q ∙ fit.matching_ends i l q;
    opens = fit.opens;
    ahead = λ i l q. subst (λ m. (i < m) × (m < length script)) (sym (b.partners i l q)) (fit.ahead i l q);
  }

  loop_opens : (v : View) → is_loop_row v ≡ true → Opens v
  unfolding is_loop_row
  loop_opens (is_plain p) e = no_true e
  loop_opens is_pick e = tt
  loop_opens is_else e = tt
  loop_opens is_end e = no_true e
  loop_opens (is_loop form test last) e = tt

  loop_ends : (h : ℕ) → h < length script → (v : View) → view_at script h ≡ v → is_loop_row v ≡ true → view_at script (end_at script (suc h)) ≡ is_end
  unfolding is_loop_row
  loop_ends h l (is_plain p) w e = no_true e
  loop_ends h l is_pick w e = no_true e
  loop_ends h l is_else w e = no_true e
  loop_ends h l is_end w e = no_true e
  loop_ends h l (is_loop form test last) w e = let (tree, whole) = tree_of_lem script n closed in (block_loop script tree whole h l form test last w).ends

  pub whole_loops : (h : ℕ) → h < length script → is_loop_row (view_at script h) ≡ true → LoopEnd script t h (end_at script (suc h))
  whole_loops h l e =
      let q = loop_opens (view_at script h) e in
      let x = end_at script (suc h) in
      let m : x < length script = subst (λ z. z < length script) (fit.matching_ends h l q) (fit.ahead h l q).1 in
      let r : EndRow script t h x = subst (λ z. EndRow script t z x) (fit.opens h l q) (b.ends x m (loop_ends h l (view_at script h) refl e)) in
      let (a, c) = loop_place script 0 h l e in
      record {
        end_row = r;
        tells = test_of (numbers_at t h) (numbers_at t x) r.test text (kind_in (numbers_at t h)) (inr (ap (λ x. is_loop_row (view_of x)) (b.kinds h l) ∙ e)) (b.tests h l);
        place = ap (λ z. get_or (loop_rows 0 script) z 0) r.loop ∙ a ∙ zero_more h;
        few = subst (λ z. z < length (loop_rows 0 script)) (sym r.loop) c;
      }
    where
      zero_more : (k : ℕ) → 0 + k ≡ k
      zero_more k = omega arith

pub packed_all : (rows : List Row) (count : ℕ) (t : List ℕ) → count ≤ length rows → 4 * count ≤ length t → ((k : ℕ) → k < count → kind_in (numbers_at t k) ≡ kind_at rows k) → Packed count rows t
packed_all rows count t h l f =
    let m = length-take-le count (rows_of t) (omega (arith, rows_length t)) in
    ext_get_or no_row (take count (rows_of t)) (take count rows) (m ∙ sym (length-take-le count rows h))
    (λ i j. get_or-take count (rows_of t) i no_row (omega arith) ∙ row i (omega arith) ∙ sym (get_or-take count rows i no_row (omega arith)))
  where
    row : (i : ℕ) → i < count → get_or (rows_of t) i no_row ≡ get_or rows i no_row
    row i j = let e = kind_in_lem t i (omega arith) ∙ f i j in λ z. record { kind = e z }

pub fill_done : (rows : List Row) (count : ℕ) (t₀ t : List ℕ) (o : Open) → length rows ≡ 256 → (p : Packable rows count t₀) → Filled rows count t o count
    → (text : List ℕ) → Closing (script_rows text rows count) → Table text rows count t
fill_done rows count t₀ t o long p f text (n, closed) =
    let script = script_rows text rows count in
    let e : length script ≡ count = kinds_first text count rows (omega (arith, p.few)) in
    let b : PairedTo text script (length script) t o = subst (λ m. PairedTo text script m t o) (sym e) (f.paired text) in
    record {
      size = f.size;
      packed = packed_all rows count t (omega (arith, p.few)) (omega (arith, p.few, f.size)) f.kinds;
      tests = (f.paired text).tests;
      partners = subst (λ m. Partners script (λ i. partner_in (numbers_at t i)) (pairs script m).head) e (whole_partners text script t o n closed b);
      ends = λ x l w. (f.paired text).ends x l w;
      loops = λ h l q. whole_loops text script t o n closed b h (subst (λ m. h < m) (sym e) l) q;
      few = heads_few script n closed;
    }

-- ---- what the table's rows stand for, beside any text
kinds_take : (text : List ℕ) (n : ℕ) (rs : List Row) → kinds_of text (take n rs) ≡ take n (kinds_of text rs)
unfolding kinds_of
kinds_take text zero rs = refl
kinds_take text (suc n) [] = refl
kinds_take text (suc n) (r ∷ rs) = ap {B = List RowKind} (λ l. kind_of text r.kind ∷ l) (kinds_take text n rs)

pub packed_kinds : (text : List ℕ) (count : ℕ) (rows : List Row) (t : List ℕ) → Packed count rows t → take count (kinds_of text (rows_of t)) ≡ take count (kinds_of text rows)
packed_kinds text count rows t p = sym (kinds_take text count (rows_of t)) ∙ ap (kinds_of text) p ∙ kinds_take text count rows

pub packed_at : (count : ℕ) (rows : List Row) (t : List ℕ) → Packed count rows t → (i : ℕ) → i < count → kind_at (rows_of t) i ≡ kind_at rows i
packed_at count rows t p i h = ap (λ (r : Row). r.kind) (sym (get_or-take count (rows_of t) i no_row h) ∙ ap (λ l. get_or l i no_row) p ∙ get_or-take count rows i no_row h)

-- a table of rows is one of the rows that it holds
pub own_table : (text : List ℕ) (rows : List Row) (count : ℕ) (t : List ℕ) → Table text rows count t → Table text (rows_of t) count t
own_table text rows count t b =
    let e : script_rows text rows count ≡ script_rows text (rows_of t) count = sym (packed_kinds text count rows t b.packed) in
    record {
      size = b.size;
      packed = refl;
      tests = b.tests;
      partners = subst (λ s. Partners s (λ i. partner_in (numbers_at t i)) (pairs s count).head) e b.partners;
      ends = subst (λ s. (x : ℕ) → x < count → view_at s x ≡ is_end → EndRow s t ((pairs s count).head x) x) e b.ends;
      loops = subst (λ s. (h : ℕ) → h < count → is_loop_row (view_at s h) ≡ true → LoopEnd s t h (end_at s (suc h))) e b.loops;
      few = subst (λ s. length (loop_rows 0 s) ≤ 16) e b.few;
    }
