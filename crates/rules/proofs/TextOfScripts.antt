-- The text of a script is read back as that script, and a file that is read is the text of its script.
use mathlib.Core.Path.{◌≡◌, refl, sym, ◌∙◌, ap, subst}
use mathlib.Core.Bool.{Bool, true, false, cond, ◌&&◌}
use mathlib.Core.List.{List, [], ◌∷◌, ◌++◌, map, append_assoc, append-nil}
use Prim.Native.Nat.{ℕ, zero, suc, ◌+◌, ◌≤◌}
use native.Mathlib.Omega.{arith}
use lib.Dec.{T, leb, leb→le, le→leb}
use lib.IntN.{pos, negsuc, nat_abs}
use lib.ListN.{length}
use lib.Signed.{le_z, ◌≤ℤ◌}
use Rattle.ints.proofs.Parts.{ints}
use Rattle.ints.proofs.Diffs.{cond_true, both}
use Rattle.rules.specs.declared.Word.{Word}
use Rattle.rules.specs.declared.Word.TheVariants.{Missing, Number, Variable, Compares, Keyword, Other}
use Rattle.rules.specs.Values.{lowest, highest}
use Rattle.rules.specs.Text.{lf, split, words_of, next_texts, next_words, next_lines}
use Rattle.rules.specs.Blocks.{RowKind, End, Else, Pick, Set, Move, Off, Cue, While, Do, For, Hold, view_of}
use Rattle.rules.specs.Nesting.{Nest, Nested, nested, wrong, nest_row, and_rows, nest_rows}
use Rattle.rules.specs.Ranges.{Range}
use Rattle.rules.specs.Scripts.{All, none, some, Script, RangeLimits, RowLimits, RowBelow, Legal}
use Rattle.rules.specs.Report.{decimal, sign, size}
use Rattle.rules.specs.Readable.{TwentyDigits, DecimalReads}
use Rattle.rules.specs.File
use Rattle.rules.specs.File.{RowRead, Read, Wrong, Reading, Rows}
use Rattle.rules.specs.ScriptText.{number_text, row_words, line_text, range_text, row_text, script_texts, text_of, Writable, ReadYes, ReadExactly, TextReads, FileIsText}
use Rattle.rules.proofs.Good.{all_append, all_map}
use Rattle.rules.proofs.Whole.{all_both}
use Rattle.rules.proofs.Readable.{decimal_reads}
use Rattle.rules.proofs.ReadLegal.{no_zero, yes_of, refusal_yes, unless_yes, First, first, then_yes, refused_not, count_fine, read_legal, read_short}
use Rattle.rules.proofs.TreeOf.{wrong_not}
use Rattle.rules.proofs.LinesAtHeads.{heads_few}
use Rattle.rules.proofs.Depth.{tree_closed, tree_deep, tree_passes}
use Rattle.rules.proofs.TextOfWords.{above, decimal_above, number_reads, number_above}
use Rattle.rules.proofs.TextOfLines.{Some, append_some, split_ended, ended_split, line_texts_lem, next_line, line_above}
use Rattle.rules.proofs.TextOfExpressions.{limit_short}
use Rattle.rules.proofs.TextOfRows.{Says, number_says, amount_says, word_tail, end_tail, row_text_lem, zeros, number_asked, row_reads, row_clear}

-- ---- lines that are read are these
one_says : (w : Word) → File.asks_one w ≡ 0 → Says (decimal 1) w
unfolding number_text sign size
one_says Missing e = no_zero _ e
one_says (Number (pos n)) e =
    let (a, b) = both (leb 1 n) (leb n 1) (yes_of (leb 1 n && leb n 1) 2 e) in
    let one : n ≡ 1 = omega (arith, leb→le 1 n a, leb→le n 1 b) in
    record { present = tt; spells = λ t s. s (omega arith) ∙ ap decimal one }
one_says (Number (negsuc n)) e = no_zero _ e
one_says (Variable v) e = no_zero _ e
one_says (Compares c) e = no_zero _ e
one_says (Keyword n) e = no_zero _ e
one_says Other e = no_zero _ e

-- a line, what stands after it, and that there is something
abbrev Line : List ℕ → List (List ℕ) → List (List ℕ) → Type 0
Line l ls ms = (ls ≡ l ∷ ms) × Some ms

script_line_lem : (ls ms : List (List ℕ)) (x : ℕ) → File.script_line ls ≡ File.read x ms → Line (line_text File.script_key (decimal 1 ∷ [])) ls ms
unfolding File.script_line
script_line_lem ls ms x e =
    let (q, f) = unless_yes _ 1 _ x ms e in
    let (a, b) = refusal_yes _ _ q in
    let r : next_lines ls ≡ ms = cc in
    let t = next_texts File.script_key ls in
    subst (Line (line_text File.script_key (decimal 1 ∷ [])) ls) r
    (next_line File.script_key ls (decimal 1) [] (word_tail (decimal 1) t 0 [] (one_says (words_of t 0) a) (end_tail t 1 b)))

count_line_lem : (key : List ℕ) (most p n : ℕ) (ls ms : List (List ℕ)) → TwentyDigits most → File.count_line key most p ls ≡ File.read n ms → Line (line_text key (decimal n ∷ [])) ls ms
unfolding File.count_line
count_line_lem key most p n ls ms h e =
    let (q, f) = unless_yes _ p _ n ms e in
    let (a, b) = refusal_yes _ _ q in
    let m : nat_abs (File.number_of (next_words key ls 0)) ≡ n = cc in
    let r : next_lines ls ≡ ms = cc in
    let t = next_texts key ls in
    subst (Line (line_text key (decimal n ∷ [])) ls) r
    (next_line key ls (decimal n) [] (word_tail (decimal n) t 0 [] (subst (λ k. Says (decimal k) (words_of t 0)) m (amount_says 0 most h (words_of t 0) a)) (end_tail t 1 b)))

range_line : (ls : List (List ℕ)) → File.asks_range (next_words File.range_key ls) ≡ 0 → Line (range_text (File.range_words (next_words File.range_key ls))) ls (next_lines ls)
unfolding File.asks_range File.range_words range_text
range_line ls q =
    let (a, b) = refusal_yes _ _ q in
    let (c, d) = refusal_yes _ _ b in
    let (f, _) = refusal_yes _ _ d in
    let t = next_texts File.range_key ls in
    next_line File.range_key ls _ _ (word_tail _ t 0 _ (number_says (words_of t 0) a) (word_tail _ t 1 [] (number_says (words_of t 1) c) (end_tail t 2 f)))

words_some : (k : RowKind) → (w : List ℕ) × (ws : List (List ℕ)) × (row_words k ≡ w ∷ ws)
unfolding row_words
words_some (Set v x) = (_, _, refl)
words_some (Move v c) = (_, _, refl)
words_some (Off v w c k) = (_, _, refl)
words_some (Cue n) = (_, _, refl)
words_some Pick = (_, _, refl)
words_some Else = (_, _, refl)
words_some End = (_, _, refl)
words_some (While v c x) = (_, _, refl)
words_some (Do v c x) = (_, _, refl)
words_some (For v s c x d) = (_, _, refl)
words_some (Hold v) = (_, _, refl)

row_line_lem : (ls : List (List ℕ)) (k : RowKind) → next_texts File.row_key ls ≡ row_words k → Line (row_text k) ls (next_lines ls)
unfolding row_text
row_line_lem ls k e =
    let (w, ws, q) = words_some k in
    subst (λ t. Line (line_text File.row_key t) ls (next_lines ls)) (sym q) (next_line File.row_key ls w ws (e ∙ q))

-- n lines that are read, after those read before
record Lines {A : Type 0} (text : A → List ℕ) (Q : A → Type 0) (n : ℕ) (ls ms : List (List ℕ)) (old all : List A) : Type 0 where
  new : List A
  many : length new ≡ n
  whole : all ≡ old ++ new
  lines : ls ≡ map text new ++ ms
  left : Some ms
  each : All Q new

lines_none : {A : Type 0} (text : A → List ℕ) (Q : A → Type 0) (ls ms : List (List ℕ)) (old all : List A) → Some ls → old ≡ all → ls ≡ ms → Lines text Q 0 ls ms old all
lines_none text Q ls ms old all s e f = record { new = []; many = refl; whole = sym (append-nil old ∙ e); lines = f; left = subst Some f s; each = none }

lines_one : {A : Type 0} (text : A → List ℕ) (Q : A → Type 0) (n : ℕ) (ls ls' ms : List (List ℕ)) (old all : List A) (x : A) → Q x → ls ≡ text x ∷ ls'
    → Lines text Q n ls' ms (old ++ (x ∷ [])) all → Lines text Q (suc n) ls ms old all
lines_one text Q n ls ls' ms old all x q e r = record {
  new = x ∷ r.new;
  many = ap suc r.many;
  whole = r.whole ∙ append_assoc old (x ∷ []) r.new;
  lines = e ∙ λ i. text x ∷ r.lines i;
  left = r.left;
  each = some q r.each;
}

range_lines_lem : (n p : ℕ) (ls : List (List ℕ)) (done rs : List Range) (ms : List (List ℕ)) → Some ls → File.range_lines n p ls done ≡ File.read rs ms
    → Lines range_text (λ _. Unit {0}) n ls ms done rs
unfolding File.range_lines
range_lines_lem zero p ls done rs ms s e = lines_none _ _ ls ms done rs s (cc) (cc)
range_lines_lem (suc n) p ls done rs ms s e =
    let (q, f) = unless_yes _ p _ rs ms e in
    let (l, k) = range_line ls q in
    lines_one _ _ n ls (next_lines ls) ms done rs _ tt l (range_lines_lem n (suc p) (next_lines ls) _ rs ms k f)

-- what is said of n row lines from line p on, after any rows
abbrev RowLines : ℕ → ℕ → ℕ → List (List ℕ) → Rows → List (List ℕ) → Type 0
RowLines vars n p ls rows ms = (done : Rows) → Some ls → File.row_lines vars n p ls done ≡ File.read rows ms → Lines row_text Writable n ls ms done.kinds rows.kinds

row_lines_lem : (vars : ℕ) → vars ≤ 16 → (n p : ℕ) (ls : List (List ℕ)) (rows : Rows) (ms : List (List ℕ)) → RowLines vars n p ls rows ms
unfolding File.row_lines File.row_line File.placed
row_lines_lem vars h zero p ls rows ms done s e = let f : done ≡ rows = cc in lines_none _ _ ls ms _ _ s (ap (λ (r : Rows). r.kinds) f) (cc)
row_lines_lem vars h (suc n) p ls rows ms done s e = by (File.row_of vars (next_texts File.row_key ls)) refl (row_lines_lem vars h n (suc p) (next_lines ls) rows ms) e
  where
    more : (k : RowKind) → File.row_of vars (next_texts File.row_key ls) ≡ Read k → (m : Nested) → RowLines vars n (suc p) (next_lines ls) rows ms
        → File.placed p done.kinds k m (λ r. File.row_lines vars n (suc p) (next_lines ls) r) ≡ File.read rows ms → Lines row_text Writable (suc n) ls ms done.kinds rows.kinds
    more k q (nested t) ih f =
        let w = row_text_lem vars h (next_texts File.row_key ls) k q in
        let (l, j) = row_line_lem ls k w.words in
        lines_one _ _ n ls (next_lines ls) ms done.kinds rows.kinds k w.writable l (ih _ j f)
    more k q (wrong c) ih f = refused_not c p rows ms f

    by : (r : RowRead) → File.row_of vars (next_texts File.row_key ls) ≡ r → RowLines vars n (suc p) (next_lines ls) rows ms
        → File.row_line p done r (λ x. File.row_lines vars n (suc p) (next_lines ls) x) ≡ File.read rows ms → Lines row_text Writable (suc n) ls ms done.kinds rows.kinds
    by (Read k) q ih f = more k q (nest_row (view_of k) done.nest) ih f
    by (Wrong c) q ih f = refused_not c p rows ms f

no_rest : (ls : List (List ℕ)) → Some ls → File.asks_rest ls ≡ 0 → ls ≡ [] ∷ []
unfolding File.asks_rest
no_rest [] s e = absurd s
no_rest ([] ∷ []) s e = refl
no_rest ([] ∷ (m ∷ more)) s e = no_zero _ e
no_rest ((b ∷ l) ∷ ls) s e = no_zero _ e

-- from `rows=R` on
abbrev rows_part : Script → List (List ℕ)
rows_part s = line_text File.rows_key (decimal (length s.rows) ∷ []) ∷ map row_text s.rows

abbrev PartLines : List Range → List (List ℕ) → Script → Type 0
PartLines ranges ls s = (ranges ≡ s.ranges) × (ls ≡ rows_part s ++ ([] ∷ [])) × All Writable s.rows

part_lines : (vars : ℕ) (ranges : List Range) (ls ms : List (List ℕ)) (script : Script) → vars ≤ 16 → File.row_part vars ranges ls ≡ File.read script ms → PartLines ranges ls script
unfolding File.row_part File.last_line
part_lines vars ranges ls ms script h e = by_count (then_yes _ _ script ms e)
  where
    by_rows : (n : ℕ) (k : List (List ℕ)) → Line (line_text File.rows_key (decimal n ∷ [])) ls k
        → First (File.row_lines vars n (4 + vars) k File.no_rows) (λ rows rest. File.last_line (4 + vars + n) ranges rows rest) script ms
        → PartLines ranges ls script
    by_rows n k (l, s) (first rows rest e₁ e₂) =
        let (q, f) = unless_yes _ (4 + vars + n) _ script ms e₂ in
        let r = row_lines_lem vars h n (4 + vars) k rows rest File.no_rows s e₁ in
        let same : record { ranges = ranges; rows = rows.kinds } ≡ script = cc in
        let end = no_rest rest r.left (refusal_yes _ _ q).0 in
        subst (PartLines ranges ls) same (
          refl,
          l ∙ (λ i. line_text File.rows_key (decimal ((sym r.many ∙ ap length (sym r.whole)) i) ∷ []) ∷ (r.lines ∙ λ j. map row_text (sym r.whole j) ++ end j) i),
          subst (All Writable) (sym r.whole) r.each,
        )

    by_count : First (File.count_line File.rows_key 256 (3 + vars) ls) (λ n more. File.then_lines (File.row_lines vars n (4 + vars) more File.no_rows) (λ rows rest. File.last_line (4 + vars + n) ranges rows rest)) script ms
        → PartLines ranges ls script
    by_count (first n more e₁ e₂) = by_rows n more (count_line_lem File.rows_key 256 (3 + vars) n ls more (omega arith) e₁) (then_yes _ _ script ms e₂)

-- all lines
abbrev ScriptLines : List (List ℕ) → Script → Type 0
ScriptLines ls s = (ls ≡ script_texts s ++ ([] ∷ [])) × All Writable s.rows

script_lines : (ls ms : List (List ℕ)) (script : Script) → File.lines_script ls ≡ File.read script ms → ScriptLines ls script
unfolding File.lines_script File.range_part script_texts
script_lines ls ms script e = by_script (then_yes _ _ script ms e)
  where
    by_ranges : (vars : ℕ) → vars ≤ 16 → (a b : List (List ℕ)) → Line (line_text File.script_key (decimal 1 ∷ [])) ls a → Line (line_text File.vars_key (decimal vars ∷ [])) a b
        → First (File.range_lines vars 3 b []) (λ ranges more. File.row_part vars ranges more) script ms → ScriptLines ls script
    by_ranges vars h a b (l, _) (m, s) (first ranges more e₁ e₂) =
        let r = range_lines_lem vars 3 b [] ranges more s e₁ in
        let (same, n, w) = part_lines vars ranges more ms script h e₂ in
        let new : r.new ≡ script.ranges = sym r.whole ∙ same in (
          l ∙ (λ i. line_text File.script_key (decimal 1 ∷ []) ∷ (m ∙ λ j. line_text File.vars_key (decimal ((sym r.many ∙ ap length new) j) ∷ [])
              ∷ (r.lines ∙ (λ k. map range_text (new k) ++ n k) ∙ sym (append_assoc (map range_text script.ranges) (rows_part script) ([] ∷ []))) j) i),
          w,
        )

    by_vars : (a : List (List ℕ)) → Line (line_text File.script_key (decimal 1 ∷ [])) ls a → First (File.count_line File.vars_key 16 2 a) (λ vars rest. File.range_part vars rest) script ms
        → ScriptLines ls script
    by_vars a l (first vars more e₁ e₂) =
        by_ranges vars (count_fine File.vars_key 16 2 a more vars e₁) a more l (count_line_lem File.vars_key 16 2 vars a more (omega arith) e₁) (then_yes _ _ script ms e₂)

    by_script : First (File.script_line ls) (λ _ more. File.then_lines (File.count_line File.vars_key 16 2 more) (λ vars rest. File.range_part vars rest)) script ms
        → ScriptLines ls script
    by_script (first x more e₁ e₂) = by_vars more (script_line_lem ls more x e₁) (then_yes _ _ script ms e₂)

file_lines_lem : (file : List ℕ) (script : Script) (ms : List (List ℕ)) → File.file_script file ≡ File.read script ms → File.lines_script (split lf file) ≡ File.read script ms
unfolding File.file_script
file_lines_lem file script ms e = by (leb (length file) 16_384) e
  where
    by : (b : Bool) → cond b (File.lines_script (split lf file)) (File.refused 2 16_384) ≡ File.read script ms → File.lines_script (split lf file) ≡ File.read script ms
    by true h = h
    by false h = refused_not 2 16_384 script ms h

pub file_is_text : FileIsText
unfolding FileIsText text_of
file_is_text file script ls e = ended_split file (script_texts script) (script_lines (split lf file) ls script (file_lines_lem file script ls e)).0

-- ---- the lines of a script are read as it
unless_reads : {A : Type 0} (q p : ℕ) (r : Reading A) → q ≡ 0 → File.unless q p r ≡ r
unfolding File.unless
unless_reads zero p r e = refl
unless_reads (suc q) p r e = no_zero q e

then_reads : {A B : Type 0} (r : Reading A) (x : A) (ls : List (List ℕ)) (k : A → List (List ℕ) → Reading B) → r ≡ File.read x ls → File.then_lines r k ≡ k x ls
unfolding File.then_lines
then_reads r x ls k e = ap (λ z. File.then_lines z k) e

script_reads : (ls : List (List ℕ)) → Some ls → File.script_line (line_text File.script_key (decimal 1 ∷ []) ∷ ls) ≡ File.read 1 ls
unfolding File.script_line next_lines words_of DecimalReads
script_reads ls s =
    let t = line_texts_lem File.script_key (decimal 1) [] ls (some (decimal_above 1 (omega arith)) none) s in
    unless_reads _ 1 _ (ap (λ z. File.first_refusal (File.asks_one (words_of z 0)) (File.asks_end (words_of z 1))) t ∙ zeros _ _ (ap File.asks_one (decimal_reads 1 (omega arith))) refl)

count_reads : (key : List ℕ) (most p n : ℕ) (ls : List (List ℕ)) → n ≤ most → TwentyDigits most → Some ls
    → File.count_line key most p (line_text key (decimal n ∷ []) ∷ ls) ≡ File.read n ls
unfolding File.count_line next_lines words_of DecimalReads
count_reads key most p n ls h d s =
    let small : TwentyDigits n = omega arith in
    let t = line_texts_lem key (decimal n) [] ls (some (decimal_above n small) none) s in
    let r = decimal_reads n small in
    unless_reads _ p _ (ap (λ z. File.first_refusal (File.asks_number (pos 0) (pos most) (words_of z 0)) (File.asks_end (words_of z 1))) t
    ∙ zeros _ _ (number_asked (pos 0) (pos most) (pos n) _ r (omega ints) (omega ints)) refl)
    ∙ λ i. File.read (nat_abs (File.number_of ((ap (λ z. words_of z 0) t ∙ r) i))) ls

-- LO and HI are inside the limits
range_limits : (r : Range) → RangeLimits r → ((lowest ≤ℤ r.lo) × (r.lo ≤ℤ highest)) × ((lowest ≤ℤ r.hi) × (r.hi ≤ℤ highest))
range_limits r (a, b, c) = ((a, omega ints), (omega ints, c))

range_asked : (r : Range) (w : ℕ → Word) → w 0 ≡ Number r.lo → w 1 ≡ Number r.hi → w 2 ≡ Missing → RangeLimits r → (File.asks_range w ≡ 0) × (File.range_words w ≡ r)
unfolding File.asks_range File.asks_order File.range_words
range_asked r w e f g h =
    let ((a, b), (c, d)) = range_limits r h in (
      zeros _ _ (number_asked lowest highest r.lo (w 0) e a b) (zeros _ _ (number_asked lowest highest r.hi (w 1) f c d) (zeros _ _ (ap File.asks_end g)
          ((λ i. cond (le_z (File.number_of (e i)) (File.number_of (f i))) 0 4) ∙ cond_true (le_z r.lo r.hi) 0 4 h.1.le))),
      λ i. record { lo = File.number_of (e i); hi = File.number_of (f i) },
    )

ranges_read : (rs : List Range) (p : ℕ) (done : List Range) (ls : List (List ℕ)) → All RangeLimits rs → Some ls
    → File.range_lines (length rs) p (map range_text rs ++ ls) done ≡ File.read (done ++ rs) ls
unfolding File.range_lines next_lines words_of range_text
ranges_read [] p done ls h s = λ i. File.read (sym (append-nil done) i) ls
ranges_read (r ∷ rs) p done ls (some k h) s =
    let (lo, hi) = range_limits r k in
    let t = line_texts_lem File.range_key (number_text r.lo) (number_text r.hi ∷ []) (map range_text rs ++ ls)
    (some (number_above r.lo (limit_short r.lo lo)) (some (number_above r.hi (limit_short r.hi hi)) none)) (append_some (map range_text rs) ls s) in
    let (q, f) = range_asked r (next_words File.range_key (range_text r ∷ (map range_text rs ++ ls))) (ap (λ z. words_of z 0) t ∙ number_reads r.lo (limit_short r.lo lo))
    (ap (λ z. words_of z 1) t ∙ number_reads r.hi (limit_short r.hi hi)) (ap (λ z. words_of z 2) t) k in
    unless_reads _ p _ q ∙ (λ i. File.range_lines (length rs) (suc p) (map range_text rs ++ ls) (done ++ (f i ∷ [])))
    ∙ ranges_read rs (suc p) (done ++ (r ∷ [])) ls h s ∙ λ i. File.read (append_assoc done (r ∷ []) rs i) ls

row_texts : (k : RowKind) (ls : List (List ℕ)) → All (λ t. T (above 32 t)) (row_words k) → Some ls → next_texts File.row_key (row_text k ∷ ls) ≡ row_words k
unfolding row_text
row_texts k ls h s =
    let (w, ws, q) = words_some k in
    subst (λ z. All (λ t. T (above 32 t)) z → next_texts File.row_key (line_text File.row_key z ∷ ls) ≡ z) (sym q) (λ a. line_texts_lem File.row_key w ws ls a s) h

rows_read : (vars : ℕ) → vars ≤ 16 → (ks : List RowKind) (p : ℕ) (done : Rows) (last : Nest) (ls : List (List ℕ)) → All RowLimits ks → All (RowBelow vars) ks → All Writable ks
    → nest_rows ks done.nest ≡ nested last → Some ls
    → File.row_lines vars (length ks) p (map row_text ks ++ ls) done ≡ File.read (record { kinds = done.kinds ++ ks; nest = last }) ls
unfolding File.row_lines File.row_line File.placed nest_rows and_rows next_lines
rows_read vars h [] p done last ls l b w e s =
    let q : done.nest ≡ last = cc in λ i. File.read (record { kinds = sym (append-nil done.kinds) i; nest = q i }) ls
rows_read vars h (k ∷ ks) p done last ls (some l ll) (some b bb) (some w ww) e s =
    ap (λ r. File.row_line p done r (λ rows. File.row_lines vars (length ks) (suc p) (map row_text ks ++ ls) rows))
    (ap (File.row_of vars) (row_texts k (map row_text ks ++ ls) (row_clear vars h k l b) (append_some (map row_text ks) ls s)) ∙ row_reads vars h k l b w)
    ∙ by (nest_row (view_of k) done.nest) e (λ t f. rows_read vars h ks (suc p) (record { kinds = done.kinds ++ (k ∷ []); nest = t }) last ls ll bb ww f s)
  where
    by : (m : Nested) → and_rows m (λ t. nest_rows ks t) ≡ nested last
        → ((t : Nest) → nest_rows ks t ≡ nested last → File.row_lines vars (length ks) (suc p) (map row_text ks ++ ls) (record { kinds = done.kinds ++ (k ∷ []); nest = t })
        ≡ File.read (record { kinds = (done.kinds ++ (k ∷ [])) ++ ks; nest = last }) ls)
        → File.placed p done.kinds k m (λ rows. File.row_lines vars (length ks) (suc p) (map row_text ks ++ ls) rows) ≡ File.read (record { kinds = done.kinds ++ (k ∷ ks); nest = last }) ls
    by (nested t) f ih = ih t f ∙ λ i. File.read (record { kinds = append_assoc done.kinds (k ∷ []) ks i; nest = last }) ls
    by (wrong c) f ih = wrong_not c last f

lines_read : (script : Script) → Legal script → All Writable script.rows → File.lines_script (script_texts script ++ ([] ∷ [])) ≡ File.read script ([] ∷ [])
unfolding File.lines_script File.range_part File.row_part File.last_line File.asks_rest File.asks_closed File.first_refusal File.unless script_texts
lines_read script legal w =
    let v : ℕ = length script.ranges in
    let r : ℕ = length script.rows in
    let rows : List (List ℕ) = map row_text script.rows ++ ([] ∷ []) in
    let ranges : List (List ℕ) = (map range_text script.ranges ++ rows_part script) ++ ([] ∷ []) in
    let (n, closed) = legal.closed in
    let (lv, lr) = legal.sizes in
    then_reads _ 1 (line_text File.vars_key (decimal v ∷ []) ∷ ranges) _ (script_reads (line_text File.vars_key (decimal v ∷ []) ∷ ranges) tt)
    ∙ then_reads _ v ranges _ (count_reads File.vars_key 16 2 v ranges lv (omega arith) (append_some (map range_text script.ranges ++ rows_part script) ([] ∷ []) tt))
    ∙ then_reads _ script.ranges (rows_part script ++ ([] ∷ [])) _
    (ap (λ ls. File.range_lines v 3 ls []) (append_assoc (map range_text script.ranges) (rows_part script) ([] ∷ []))
    ∙ ranges_read script.ranges 3 [] (rows_part script ++ ([] ∷ [])) legal.numbers.0 tt)
    ∙ then_reads _ r rows _ (count_reads File.rows_key 256 (3 + v) r rows lr (omega arith) (append_some (map row_text script.rows) ([] ∷ []) tt))
    ∙ then_reads _ (record { kinds = script.rows; nest = record { open_blocks = []; loops = n } }) ([] ∷ []) _
    (rows_read v lv script.rows (4 + v) File.no_rows _ ([] ∷ []) legal.numbers.1 legal.variables w closed tt)

-- ---- no line has LF
map_clear : {A : Type 0} (text : A → List ℕ) (Q : A → Type 0) (xs : List A) → ((x : A) → Q x → T (above lf (text x))) → All Q xs → All (λ l. T (above lf l)) (map text xs)
map_clear text Q [] f h = none
map_clear text Q (x ∷ xs) f (some q h) = some (f x q) (map_clear text Q xs f h)

count_clear : (key : List ℕ) (n : ℕ) → T (above lf key) → TwentyDigits n → T (above lf (line_text key (decimal n ∷ [])))
count_clear key n k h = line_above key (decimal n ∷ []) k (some (decimal_above n h) none)

script_clear : (script : Script) → Legal script → All (λ l. T (above lf l)) (script_texts script)
unfolding script_texts range_text row_text
script_clear script legal =
    let (lv, lr) = legal.sizes in
    some (count_clear File.script_key 1 tt (omega arith)) (some (count_clear File.vars_key (length script.ranges) tt (omega arith)) (all_append
    (map_clear range_text RangeLimits script.ranges (λ r h. let (lo, hi) = range_limits r h in
    line_above File.range_key _ tt (some (number_above r.lo (limit_short r.lo lo)) (some (number_above r.hi (limit_short r.hi hi)) none))) legal.numbers.0)
    (some (count_clear File.rows_key (length script.rows) tt (omega arith))
    (map_clear row_text (λ k. RowLimits k × RowBelow (length script.ranges) k) script.rows
    (λ k (l, b). line_above File.row_key (row_words k) tt (row_clear (length script.ranges) lv k l b)) (all_both legal.numbers.1 legal.variables)))))

pub text_reads : TextReads
unfolding TextReads text_of File.file_script
text_reads script legal w h =
    cond_true (leb (length (text_of script)) 16_384) _ _ (le→leb (length (text_of script)) 16_384 h)
    ∙ ap File.lines_script (split_ended (script_texts script) (script_clear script legal)) ∙ lines_read script legal w

-- ---- the questions 2 to 7 and 17, one by one
pub read_exactly : ReadExactly
unfolding ReadExactly FileIsText TextReads
read_exactly file script = (forth, back)
  where
    forth : (ls : List (List ℕ)) × (File.file_script file ≡ File.read script ls) → ReadYes file script
    forth (ls, e) =
        let legal = read_legal file script ls e in
        let w = (script_lines (split lf file) ls script (file_lines_lem file script ls e)).1 in
        let (n, c) = legal.closed in
        record {
          short = read_short file script ls e;
          text = file_is_text file script ls e;
          shaped = all_map (λ k h. h.shaped) w;
          ordered = all_map (λ k h. h.ordered) w;
          small = all_map (λ k h. h.small) w;
          sizes = legal.sizes;
          numbers = legal.numbers;
          variables = legal.variables;
          closed = tree_closed script.rows n c;
          deep = tree_deep script.rows n c;
          loops = heads_few script.rows n c;
        }

    back : ReadYes file script → (ls : List (List ℕ)) × (File.file_script file ≡ File.read script ls)
    back y = (
      [] ∷ [],
      subst (λ t. File.file_script t ≡ File.read script ([] ∷ [])) (sym y.text) (text_reads script
          (record { sizes = y.sizes; numbers = y.numbers; variables = y.variables; closed = (_, tree_passes script.rows y.closed y.deep y.loops) })
          (all_map (λ k (s, (o, m)). record { shaped = s; ordered = o; small = m }) (all_both y.shaped (all_both y.ordered y.small)))
          (subst (λ t. length t ≤ 16_384) y.text y.short)),
    )
