-- `season_sheet::files::add_file` meets its contract.
use mathlib.Core.Path.{sym, ap, ◌∙◌}
use Prim.Native.Nat.{ℕ, ◌+◌, ◌≤◌, ◌<◌}
use native.Mathlib.Omega.{arith}
use mathlib.Core.List.{List}
use lib.ListN.{length, length-drop}
use borrow.Author.Rules.{rules}
use Rattle.report.proofs.PiecesLaws.{part_rest}
use Rattle.rules.specs.Replies.{reply_by}
use Rattle.season_sheet.specs.Holds.{SheetWithRoom}
use Rattle.season_sheet.specs.declared.sheet.Sheet.{Sheet}
use Rattle.season_sheet.proofs.FilesLaws.{used_room, cued_room, adds, leaves, holds_accepted, holds_refused}
use Rattle.season_sheet.proofs.files.add_file.Goals as goal

room : (file : List ℕ) (sheet : Sheet) (counts lengths reports fired cues : List ℕ) → SheetWithRoom sheet counts lengths reports fired cues
    → (sheet.used + 2_089 ≤ length reports) × (sheet.cued + 256 ≤ length cues)
room file sheet counts lengths reports fired cues (js, h, l) = (used_room file _ _ _ _ _ _ js h l, cued_room file _ _ _ _ _ _ js h l)

pub keep_first-fresh-requires : goal.keep_first-fresh-requires
keep_first-fresh-requires c =
    let (js, h, l) = c.requires in
    let a = adds c.args.file.now _ _ _ _ _ _ js h l _ _ _ c.measure-found.ensures _ (ap reply_by c.in-Ok.is) in
    let r = room c.args.file.now _ _ _ _ _ _ c.requires in
    record {
      place = omega (arith, h.few, h.places);
      text = omega (arith, h.firsts.texts.sum);
      bytes = omega (arith, a.same, a.short, r.0);
      same = h.firing ∙ sym h.places;
      numbers = omega (arith, h.firsts.numbers.sum);
      room = omega (arith, a.also, c.measure-found.ensures.few, r.1);
    }

pub with_accepted-requires : goal.with_accepted-requires
with_accepted-requires c =
    let (js, h, l) = c.requires in
    let a = adds c.args.file.now _ _ _ _ _ _ js h l _ _ _ c.measure-found.ensures _ (ap reply_by c.in-Ok.is) in
    let r = room c.args.file.now _ _ _ _ _ _ c.requires in
    let m = c.measure-found.ensures in
    (omega (arith, h.files), omega (arith, h.sum), m.measured.few, omega (arith, h.few), omega (arith, h.room, a.short, r.0), omega (arith, h.numbers, m.few, r.1))

pub with_refused-requires : goal.with_refused-requires
with_refused-requires c = let (js, h, l) = c.requires in (omega (arith, h.files), h.long, λ q k. omega (arith, h.each q k))

pub returns-in-Ok : goal.returns-in-Ok
returns-in-Ok c = λ js h.
    let (js₀, h₀, l₀) = c.requires in
    let l : length js < 64 = omega (arith, h.files, h₀.files) in
    let m = c.measure-found.ensures in
    let a = adds c.args.file.now _ _ _ _ _ _ js h l _ _ _ m _ (ap reply_by c.in-Ok.is) in
    holds_accepted js _ _ _ _ _ _ _ h a.script _ a.judgement _ _ _ _ _ _ _ _ c.with_accepted.ensures a.figure m.measured.few
    (c.keep_first-fresh.ensures _ _ a.kept a.text a.short a.fires m.few) (search rules) (a.same ∙ h.room) (search rules) (a.also ∙ h.numbers)

pub returns-in-Err : goal.returns-in-Err
returns-in-Err c = λ js h.
    let (js₀, h₀, l₀) = c.requires in
    let l : length js < 64 = omega (arith, h.files, h₀.files) in
    let a = leaves c.args.file.now _ _ _ _ _ _ js h l _ _ _ c.measure-found.ensures _ _ (ap reply_by c.in-Err.is) in
    holds_refused js _ _ _ _ _ _ _ h _ _ _ a.judgement _ _ _ c.with_refused.ensures a.kept a.same a.also

pub slice_bounds-measure-count : goal.slice_bounds-measure-count
slice_bounds-measure-count c = omega (arith, room c.args.file.now _ _ _ _ _ _ c.requires)

pub slice_bounds-measure-start : goal.slice_bounds-measure-start
slice_bounds-measure-start c = omega (arith, room c.args.file.now _ _ _ _ _ _ c.requires)

pub slice_bounds-measure-count-2 : goal.slice_bounds-measure-count-2
slice_bounds-measure-count-2 c = omega (arith, room c.args.file.now _ _ _ _ _ _ c.requires)

pub slice_bounds-measure-start-2 : goal.slice_bounds-measure-start-2
slice_bounds-measure-start-2 c = omega (arith, room c.args.file.now _ _ _ _ _ _ c.requires)

pub measure-found-requires : goal.measure-found-requires
measure-found-requires c = simp (part_rest, length-drop) (omega (arith, room c.args.file.now _ _ _ _ _ _ c.requires))
