-- One file more. Assumes nothing.
use mathlib.Core.Path.{◌≡◌, refl, sym, ap, subst, ◌∙◌}
use mathlib.Core.Bool.{Bool, true, false, not, cond}
use mathlib.Core.List.{List, [], ◌∷◌, ◌++◌, append-nil}
use Prim.Native.Nat.{ℕ, ◌+◌, ◌-◌, ◌≤◌, ◌<◌}
use native.Mathlib.Omega.{arith}
use lib.IntN.{ℤ}
use lib.ListN.{length, take, drop, length-append, length-take, length-drop, drop_of_length-le}
use lib.Seq.{take-append_seam, take_at, drop_at}
use borrow.Author.Tests.{le-leb}
use borrow.Rule.Slice.PartMut.{mid_of, put_mid}
use Rattle.std.specs.Prelude.{Ok, Err}
use Rattle.rules.specs.declared.Refusal.{Refusal}
use Rattle.rules.specs.Replies.{Accepted, Refused, reply_by}
use Rattle.reader.specs.Read.{load_answer}
use Rattle.rules.specs.Verdicts.{Verdict}
use Rattle.rules.specs.Verdicts.{passed as Passed}
use Rattle.rules.specs.Figures.{ones}
use Rattle.rules.specs.Scripts.{Script, report_ticks, script_of}
use Rattle.rules.specs.File.{file_script}
use Rattle.rules.specs.Report.{script_report, longest_report}
use Rattle.rules.specs.Calls.{Judged, accepted, refuses, four_ones, Priced, prices_verdict, judged_by, judged, buffer_reply, over, written, reply_of, buffer_of}
use Rattle.rules_season.specs.Season.{cues_of, judged_all, scripts_of, refusals_of, met, sum_of_ticks, among, firsts, sheet_of}
use Rattle.rules.proofs.LongestReport.{longest_report_lem}
use Rattle.rules_season.proofs.GroupsExact.{length_end, scripts_end, scripts_same}
use Rattle.table.specs.Code.{rows_of}
use Rattle.table.specs.Paired.{script_rows}
use Rattle.reader.specs.declared.Loaded.{Loaded}
use Rattle.reader.specs.Read.{LoadedAs}
use Rattle.calls.specs.declared.Measured.{Measured}
use Rattle.calls.specs.Told.{judged_ticks, MeasuredAs}
use Rattle.calls.specs.Held.{read_script, judged_script}
use Rattle.calls.proofs.Loaded.{file_read, file_given}
use Rattle.loader.proofs.Laws.{lent_yes}
use Rattle.report.specs.Pieces.{Wrote}
use Rattle.report.proofs.PiecesLaws.{wrote_length}
use Rattle.season_sheet.specs.Firsts.{total, cut_by, Firsts, more}
use Rattle.season_sheet.proofs.GroupsLaws.{parts_moved}
use Rattle.season_sheet.specs.declared.sheet.Sheet.{Sheet}
use Rattle.season_sheet.specs.Figures.{SheetIs, Accepting, Refusing}
use Rattle.season_sheet.specs.declared.files.FileFigures.{FileFigures}
use Rattle.season_sheet.specs.Holds.{as_measured, FoundAs, kept_by, SeasonSoFar}

pub ones_priced : Priced four_ones
unfolding prices_verdict
ones_priced = refl

-- a file that is judged as another thing is
pub measured_same : {j k : Judged} {old new : List ℕ} {m : Measured} → j ≡ k → MeasuredAs four_ones k old new m → MeasuredAs four_ones j old new m
measured_same {old = old} {new} {m} e h = subst (λ z. MeasuredAs four_ones z old new m) (sym e) h

pub measured_no : {j : Judged} {old : List ℕ} {r : Refusal} → j ≡ refuses r.number r.place → MeasuredAs four_ones j old old (record { reply = Err r; ticks = 0 })
unfolding reply_of buffer_of
measured_no {old = old} {r} e = measured_same e (record { reply = refl; buffer = refl; ticks = refl; few = omega arith })

-- ---- what was measured
pub record Took (s : Script) (len : ℕ) (new : List ℕ) (ticks : ℕ) : Type 0 where
  pub report : take len new ≡ script_report ones s
  pub short : len ≤ longest_report
  pub within : len ≤ length new
  pub figure : ticks ≡ report_ticks ones s

module _ (file old new : List ℕ) (m : Measured) (h : MeasuredAs four_ones (judged four_ones 1_024 file) old new m) (room : longest_report ≤ length old) where
  -- an accepted file: its report is at the front
  taken : (s : Script) → judged four_ones 1_024 file ≡ accepted s → (reply_by m.reply ≡ Accepted (length (script_report ones s))) × Took s (length (script_report ones s)) new m.ticks × (length new ≡ length old)
  unfolding reply_of buffer_of buffer_reply written over
  taken s e =
      let short : length (script_report ones s) ≤ longest_report = longest_report_lem four_ones 1_024 file s e in
      let fits = le-leb (length (script_report ones s)) (length old) (omega arith) in
      let text : new ≡ script_report ones s ++ drop (length (script_report ones s)) old =
      h.buffer ∙ ap (λ j. buffer_of four_ones j old) e ∙ ap (λ b. cond b (script_report ones s ++ drop (length (script_report ones s)) old) old) fits in
      let same : length new ≡ length old = ap length text ∙ simp (length-append, length-drop) (omega arith) in (
        h.reply ∙ ap (λ j. reply_of four_ones j (length old)) e ∙ ap (λ b. cond b (Accepted (length (script_report ones s))) (Refused 14 (length (script_report ones s)))) fits,
        record {
          report = ap (take (length (script_report ones s))) text ∙ take-append_seam (script_report ones s) (drop (length (script_report ones s)) old);
          short = short;
          within = omega arith;
          figure = h.ticks ∙ ap (judged_ticks four_ones) e;
        },
        same,
      )

  -- a refused one: nothing is written
  left : (q p : ℕ) → judged four_ones 1_024 file ≡ refuses q p → (reply_by m.reply ≡ Refused q p) × (new ≡ old)
  unfolding reply_of buffer_of
  left q p e = (h.reply ∙ ap (λ j. reply_of four_ones j (length old)) e, h.buffer ∙ ap (λ j. buffer_of four_ones j old) e)

  pub was_accepted : (len : ℕ) → reply_by m.reply ≡ Accepted len → (s : Script) × (judged four_ones 1_024 file ≡ accepted s) × Took s len new m.ticks × (length new ≡ length old)
  was_accepted len r = go (judged four_ones 1_024 file) refl
    where
      go : (j : Judged) → judged four_ones 1_024 file ≡ j → (s : Script) × (judged four_ones 1_024 file ≡ accepted s) × Took s len new m.ticks × (length new ≡ length old)
      go (accepted s) e =
          let (a, t, n) = taken s e in
          let f : length (script_report ones s) ≡ len = cc in
          (s, e, subst (λ z. Took s z new m.ticks) f t, n)
      go (refuses q p) e = let (a, n) = left q p e in absurd (let z : ◌≡◌ {A = ℕ} 0 1 = cc in omega arith)

  pub was_refused : (q p : ℕ) → reply_by m.reply ≡ Refused q p → (judged four_ones 1_024 file ≡ refuses q p) × (new ≡ old)
  was_refused q p r = go (judged four_ones 1_024 file) refl
    where
      go : (j : Judged) → judged four_ones 1_024 file ≡ j → (judged four_ones 1_024 file ≡ refuses q p) × (new ≡ old)
      go (accepted s) e = let (a, t, n) = taken s e in absurd (let z : ◌≡◌ {A = ℕ} 0 1 = cc in omega arith)
      go (refuses k l) e =
          let (a, n) = left k l e in
          let f : k ≡ q = cc in
          let g : l ≡ p = cc in
          (e ∙ (λ i. refuses (f i) (g i)), n)

-- ---- the part &mut reports[used..], back with as many bytes
module _ (used : ℕ) (old ys : List ℕ) (l : used ≤ length old) (e : length ys ≡ length old - used) where
  abbrev placed : List ℕ
  placed = put_mid used (length old - used) old ys

  pub placed_is : placed ≡ take used old ++ ys
  placed_is = ap (λ z. take used old ++ (ys ++ z)) (drop_of_length-le (drop used old) {i = length old - used} (simp length-drop (omega arith))) ∙ ap (λ z. take used old ++ z) (append-nil ys)

  front_long : length (take used old) ≡ used
  front_long = simp length-take (omega arith)

  pub placed_long : length placed ≡ length old
  placed_long = ap length placed_is ∙ simp (length-append, front_long) (omega arith)

  pub placed_front : take used placed ≡ take used old
  placed_front = ap (take used) placed_is ∙ take_at (take used old) ys used front_long

  pub placed_rest : drop used placed ≡ ys
  placed_rest = ap (drop used) placed_is ∙ drop_at (take used old) ys used front_long

-- ---- no file
pub holds_none : (s : Sheet) (counts lengths reports fired cues : List ℕ) → SheetIs [] s counts × (s.groups ≡ 0) × (s.used ≡ 0) × (s.cued ≡ 0) × (length counts ≡ 21)
    → length lengths ≡ 64 → length reports ≡ 133_696 → length fired ≡ 64 → length cues ≡ 16_384 → SeasonSoFar [] s counts lengths reports fired cues
unfolding sheet_of scripts_of refusals_of met sum_of_ticks firsts cut_by total
holds_none s counts lengths reports fired cues (f, g, u, v, n) l r m o = record {
  figures = f;
  firsts = subst (λ k. Firsts [] k lengths reports fired cues) (λ i. record { groups = sym g i; used = sym u i; cued = sym v i }) (record {
    count = refl;
    texts = record { each = refl; sum = refl; room = omega arith };
    numbers = record { each = refl; sum = refl; room = omega arith };
  });
  files = omega (arith, f.accepts, f.refusals);
  sum = omega (arith, f.sum);
  few = omega (arith, g);
  long = n;
  each = λ q m. omega (arith, f.numbers q m);
  places = l;
  room = r;
  firing = m;
  numbers = o;
}

pub judged_end : (files : List (List ℕ)) (file : List ℕ) → judged_all (files ++ (file ∷ [])) ≡ judged_all files ++ (judged four_ones 1_024 file ∷ [])
unfolding judged_all
judged_end [] file = refl
judged_end (f ∷ files) file = ap (λ l. judged four_ones 1_024 f ∷ l) (judged_end files file)

pub judged_count : (files : List (List ℕ)) → length (judged_all files) ≡ length files
unfolding judged_all
judged_count [] = refl
judged_count (f ∷ files) = omega (arith, judged_count files)

-- ---- the sheet with it
module _ (js : List Judged) (old new : Sheet) (counts lengths reports fired cues : List ℕ) (h : SeasonSoFar js old counts lengths reports fired cues) where
  pub holds_accepted : (s : Script) (j : Judged) → j ≡ accepted s → (ticks len count : ℕ) (fresh : Bool) (lengths' reports' fired' cues' : List ℕ) → Accepting old ticks len count fresh new → ticks ≡ report_ticks ones s → ticks ≤ 1_000_000_000_000
      → (fresh ≡ not (among s (scripts_of js))) × Firsts (scripts_of js ++ (s ∷ [])) (more fresh (kept_by old) len count) lengths' reports' fired' cues'
      → length lengths' ≡ 64 → length reports' ≡ 133_696 → length fired' ≡ 64 → length cues' ≡ 16_384 → SeasonSoFar (js ++ (j ∷ [])) new counts lengths' reports' fired' cues'
  holds_accepted s j e ticks len count fresh lengths' reports' fired' cues' a t few (f, g) p r m o =
      let same : more fresh (kept_by old) len count ≡ kept_by new = λ i. record { groups = sym a.classes i; used = sym a.bytes i; cued = sym a.cues i } in
      subst (λ z. SeasonSoFar (js ++ (z ∷ [])) new counts lengths' reports' fired' cues') (sym e) (record {
        figures = a.sheet js s counts h.figures t f;
        firsts = subst (λ z. Firsts z (kept_by new) lengths' reports' fired' cues') (sym (scripts_end js s)) (subst (λ z. Firsts (scripts_of js ++ (s ∷ [])) z lengths' reports' fired' cues') same g);
        files = omega (arith, a.accepts, a.refusals, h.files, length_end js (accepted s));
        sum = omega (arith, a.sum, h.sum, length_end js (accepted s));
        few = omega (arith, a.classes, h.few, length_end js (accepted s), one fresh);
        long = h.long;
        each = λ q l. omega (arith, h.each q l, length_end js (accepted s));
        places = p;
        room = r;
        firing = m;
        numbers = o;
      })
    where
      one : (b : Bool) → cond b 1 0 ≤ 1
      one true = omega arith
      one false = omega arith

  pub holds_refused : (q p : ℕ) (j : Judged) → j ≡ refuses q p → (counts' reports' cues' : List ℕ) → Refusing old q counts counts' new → Firsts (scripts_of js) (kept_by old) lengths reports' fired cues' → length reports' ≡ length reports → length cues' ≡ length cues
      → SeasonSoFar (js ++ (j ∷ [])) new counts' lengths reports' fired cues'
  holds_refused q p j e counts' reports' cues' a g r o =
      let same : kept_by old ≡ kept_by new = λ i. record { groups = sym a.classes i; used = sym a.bytes i; cued = sym a.cues i } in
      subst (λ z. SeasonSoFar (js ++ (z ∷ [])) new counts' lengths reports' fired cues') (sym e) (record {
        figures = a.sheet js p h.figures;
        firsts = subst (λ z. Firsts z (kept_by new) lengths reports' fired cues') (sym (scripts_same js q p)) (subst (λ z. Firsts (scripts_of js) z lengths reports' fired cues') same g);
        files = omega (arith, a.accepts, a.refusals, h.files, length_end js (refuses q p));
        sum = omega (arith, a.sum, h.sum, length_end js (refuses q p));
        few = omega (arith, a.classes, h.few, length_end js (refuses q p));
        long = a.long;
        each = λ k l. omega (arith, a.each k l, h.each k l, length_end js (refuses q p));
        places = h.places;
        room = r ∙ h.room;
        firing = h.firing;
        numbers = o ∙ h.numbers;
      })

-- ---- what stands at the call
module _ (file counts lengths reports fired cues : List ℕ) (sheet : Sheet) (js : List Judged) (h : SeasonSoFar js sheet counts lengths reports fired cues) (l : length js < 64) where
  abbrev behind : List ℕ
  behind = mid_of sheet.used (length reports - sheet.used) reports

  abbrev ahead : List ℕ
  ahead = mid_of sheet.cued (length cues - sheet.cued) cues

  pub used_room : sheet.used + longest_report ≤ length reports
  used_room = omega (arith, h.firsts.texts.room, h.few, h.room)

  pub cued_room : sheet.cued + 256 ≤ length cues
  cued_room = omega (arith, h.firsts.numbers.room, h.few, h.numbers)

  behind_long : length behind ≡ length reports - sheet.used
  behind_long = simp (length-take, length-drop) (omega arith)

  ahead_long : length ahead ≡ length cues - sheet.cued
  ahead_long = simp (length-take, length-drop) (omega arith)

  behind_room : longest_report ≤ length behind
  behind_room = omega (arith, behind_long, used_room)

  module _ (ys zs : List ℕ) (m : FileFigures) (e : FoundAs (judged four_ones 1_024 file) behind ys ahead zs m) where
    abbrev after : List ℕ
    after = put_mid sheet.used (length reports - sheet.used) reports ys

    abbrev then_cues : List ℕ
    then_cues = put_mid sheet.cued (length cues - sheet.cued) cues zs

    within : sheet.used ≤ length reports
    within = omega (arith, used_room)

    inside : sheet.cued ≤ length cues
    inside = omega (arith, cued_room)

    zs_long : length zs ≡ length cues - sheet.cued
    zs_long = e.same ∙ ahead_long

    -- what is kept does not read what is behind it
    moved : length ys ≡ length reports - sheet.used → Firsts (scripts_of js) (kept_by sheet) lengths after fired then_cues
    moved k = record {
      count = h.firsts.count;
      texts = parts_moved reports after h.firsts.texts (sym (placed_front sheet.used reports ys within k));
      numbers = parts_moved cues then_cues h.firsts.numbers (sym (placed_front sheet.cued cues zs inside zs_long));
    }

    -- accepted, with its report and cue numbers behind what is kept
    pub record Adds (len : ℕ) : Type 0 where
      pub script : Script
      pub judgement : judged four_ones 1_024 file ≡ accepted script
      pub figure : m.ticks ≡ report_ticks ones script
      pub short : len ≤ longest_report
      pub text : take len (drop sheet.used after) ≡ script_report ones script
      pub fires : take m.cues (drop sheet.cued then_cues) ≡ cues_of script.rows
      pub same : length after ≡ length reports
      pub also : length then_cues ≡ length cues
      pub kept : Firsts (scripts_of js) (kept_by sheet) lengths after fired then_cues

    pub adds : (len : ℕ) → reply_by m.reply ≡ Accepted len → Adds len
    unfolding over
    adds len r =
        let (s, j, t, n) = was_accepted file behind ys (as_measured m) e.measured behind_room len r in
        let k : length ys ≡ length reports - sheet.used = n ∙ behind_long in
        let w = e.fires s j in
        record {
          script = s;
          judgement = j;
          figure = t.figure;
          short = t.short;
          text = ap (take len) (placed_rest sheet.used reports ys within k) ∙ t.report;
          fires =
              ap (take m.cues) (placed_rest sheet.cued cues zs inside zs_long) ∙ (λ i. take (w.count i) (w.kept i)) ∙ take-append_seam (cues_of s.rows) (drop (length (cues_of s.rows)) ahead);
          same = placed_long sheet.used reports ys within k;
          also = placed_long sheet.cued cues zs inside zs_long;
          kept = moved k;
        }

    -- refused
    pub record Leaves (q p : ℕ) : Type 0 where
      pub judgement : judged four_ones 1_024 file ≡ refuses q p
      pub same : length after ≡ length reports
      pub also : length then_cues ≡ length cues
      pub kept : Firsts (scripts_of js) (kept_by sheet) lengths after fired then_cues

    pub leaves : (q p : ℕ) → reply_by m.reply ≡ Refused q p → Leaves q p
    leaves q p r =
        let (j, n) = was_refused file behind ys (as_measured m) e.measured behind_room q p r in
        let k : length ys ≡ length reports - sheet.used = ap length n ∙ behind_long in
        record { judgement = j; same = placed_long sheet.used reports ys within k; also = placed_long sheet.cued cues zs inside zs_long; kept = moved k }

-- ---- what is found of a file
same_script : (script s : Script) (v : Verdict) → judged_by script v ≡ accepted s → script ≡ s
unfolding judged_by
same_script script s Passed e = cc
same_script script s (Verdict.refused q p) e = absurd (let z : ◌≡◌ {A = ℕ} 0 1 = cc in omega arith)

module _ (file : List ℕ) (script : Loaded) (ranges : List (List ℤ)) (t : List ℕ) (e : LoadedAs file (file_script file) (load_answer (Ok script)) ranges t) where
  abbrev held : Script
  held = read_script file t script ranges

  judged_is : judged four_ones 1_024 file ≡ judged_script four_ones held
  judged_is = lent_yes four_ones 1_024 ones_priced file ∙ file_read four_ones file (load_answer (Ok script)) ranges t e refl

  pub found_read : {old new cues cues' : List ℕ} {m : Measured} {n : ℕ} → MeasuredAs four_ones (judged_script four_ones held) old new m → Wrote (cues_of (script_rows file (rows_of t) script.count)) cues cues' n → n ≤ script.count → 256 ≤ length cues
      → FoundAs (judged four_ones 1_024 file) old new cues cues' (record { reply = m.reply; ticks = m.ticks; cues = n })
  unfolding script_of
  found_read {cues = cues} {cues'} {n = n} h w f r =
      let few = (file_given four_ones file (load_answer (Ok script)) ranges t e refl).size in
      record {
        measured = measured_same judged_is h;
        fires = λ s g. subst (λ x. Wrote (cues_of x.rows) cues cues' n) (same_script held s _ (sym judged_is ∙ g)) w;
        few = omega arith;
        same = wrote_length _ _ _ _ (omega (arith, w.count)) w;
      }

pub found_no : {j : Judged} {old cues : List ℕ} {r : Refusal} → j ≡ refuses r.number r.place → FoundAs j old old cues cues (record { reply = Err r; ticks = 0; cues = 0 })
found_no e = record {
  measured = measured_no e;
  fires = λ s f. absurd (let z : ◌≡◌ {A = ℕ} 0 1 = cc in omega arith);
  few = omega arith;
  same = refl;
}
