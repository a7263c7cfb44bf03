use mathlib.Core.Path.{◌≡◌, refl, sym, ap, ◌∙◌}
use Prim.Native.Nat.{◌+◌}
use native.Mathlib.Omega.{arith}
use Rattle.std.specs.Prelude.{Ok, Err}
use Rattle.std.proofs.Common.{rules}
use Rattle.rules.specs.Verdicts.{passed, refused, verdict_of}
use Rattle.rules.specs.File.{file_script}
use Rattle.rules.proofs.PassedOn.{passed_on}
use Rattle.reading.proofs.TextLaws.{part_rest}
use Rattle.table.proofs.Whole.{fill_none, fill_ready, fill_more, fill_done}
use Rattle.reader.specs.Head.{head_answer, passing, head_read}
use Rattle.reader.specs.Read.{ReadAs}
use Rattle.reader.proofs.Packs.{read_closes, read_packable, read_loaded, refused_loads}
use Rattle.reader.proofs.FillRows.{RowsRead, rows_none, rows_more, rows_wrong, rows_misplaced, rows_long, rows_all}
use Rattle.reader.proofs.Loads.{rows_refused, load_read, loads}
use Rattle.reader.proofs.load.Goals as goal
use Rattle.reader.proofs.load.Goals.{After-ask_end}

pub loop-i-init : goal.loop-i-init
loop-i-init c = rows_none _ _ _ _ _ _ c.in_ok-head.ensures.0.within.start refl

pub returns-in-Err : goal.returns-in-Err
returns-in-Err c =
    let line = rw (part_rest c.args.file.now c.loop-i.next) at c.in-Err.ensures in
    let w = rows_wrong _ _ _ _ _ _ _ _ c.loop-i.invariant c.loop-i-test.true c.in-Err.q line in
    rw c.refused.ensures (refused_loads _ _ _ _ _ (rows_refused c.args.file.now c.load_head.new.ranges c.in_ok-head.head _ _ w ∙ c.in_ok-head.ensures.0.script) c.requires)

pub returns-in-Err-nest_row : goal.returns-in-Err-nest_row
returns-in-Err-nest_row c =
    let line = rw (part_rest c.args.file.now c.loop-i.next) at c.in-Ok.ensures in
    let w = rows_misplaced _ _ _ _ _ _ _ _ c.loop-i.invariant c.loop-i-test.true c.in-Ok.row line (Err c.in-Err-nest_row.q) (c.in-Err-nest_row.ensures.nests c.args.file.now) c.in-Err-nest_row.q refl in
    rw c.misplaced.ensures (refused_loads _ _ _ _ _ (rows_refused c.args.file.now c.load_head.new.ranges c.in_ok-head.head _ _ w ∙ c.in_ok-head.ensures.0.script) c.requires)

pub overflow_add-next : goal.overflow_add-next
overflow_add-next c =
    let line = rw (part_rest c.args.file.now c.loop-i.next) at c.in-Ok.ensures in
    let h = rows_long _ _ _ _ _ _ _ _ c.loop-i.invariant c.loop-i-test.true c.in-Ok.row line (Ok c.in-Ok-nest_row.after) (c.in-Ok-nest_row.ensures.nests c.args.file.now) in
    let k = c.well_formed.0 in
    search rules

pub overflow_add-next-in-loop-i : goal.overflow_add-next-in-loop-i
overflow_add-next-in-loop-i c =
    let line = rw (part_rest c.args.file.now c.loop-i.next) at c.in-Ok.ensures in
    let h = rows_long _ _ _ _ _ _ _ _ c.loop-i.invariant c.loop-i-test.true c.in-Ok.row line (Ok c.in-Ok-nest_row.after) (c.in-Ok-nest_row.ensures.nests c.args.file.now) in
    let k = c.well_formed.0 in
    search rules

pub loop-i-preserved : goal.loop-i-preserved
loop-i-preserved c =
    let line = rw (part_rest c.args.file.now c.loop-i.next) at c.in-Ok.ensures in
    let e : c.loop-i.next + (c.in-Ok.row.end + 1) ≡ c.loop-i.next + c.in-Ok.row.end + 1 = omega arith in
    rw e (rows_more _ _ _ _ _ _ _ _ c.loop-i.invariant c.loop-i-test.true c.in-Ok.row line (Ok c.in-Ok-nest_row.after) (c.in-Ok-nest_row.ensures.nests c.args.file.now) c.in_ok-head.ensures.0.within.count c.in-Ok-nest_row.after refl c.in-Ok-nest_row.ensures.shallow)

-- all rows have been read
all_rows : (c : After-ask_end) → RowsRead c.args.file.now c.in_ok-head.head.at c.in_ok-head.head.vars c.in_ok-head.head.count c.loop-i.next c.loop-i.blocks c.loop-i.rows
all_rows c = rows_all _ _ _ _ _ _ _ _ c.loop-i.invariant c.loop-i-test.false

pub returns-in_err-head : goal.returns-in_err-head
unfolding head_read passing
returns-in_err-head c =
    rw (passed_on c.from_residual.result c.in_err-head.field-0.0 c.from_residual.ensures)
    (refused_loads _ _ _ _ _ c.in_err-head.ensures.0.script c.requires)

pub returns-in_err-ask_end : goal.returns-in_err-ask_end
unfolding passing
returns-in_err-ask_end c =
    let a = (goal.at.returns-in_err-ask_end c).After-ask_end in
    let r = c.in_err-ask_end.field-0.0 in
    let k : refused r.number r.place ≡ verdict_of c.ask_end.result = sym (ap verdict_of c.in_err-ask_end.was) in
    rw (passed_on c.from_residual-in_err-ask_end.result c.in_err-ask_end.field-0.0 c.from_residual-in_err-ask_end.ensures)
    (refused_loads _ _ _ _ _ (load_read c.args.file.now c.load_head.new.ranges c.in_ok-head.head _ _ _ (all_rows a) (refused r.number r.place) (k ∙ c.ask_end.ensures) ∙ c.in_ok-head.ensures.0.script) c.requires)

pub loop-j-init : goal.loop-j-init
loop-j-init c =
    let a = (goal.at.loop-j-init c).After-ask_end in
    let file = c.args.file.now in
    let h = c.in_ok-head in
    let o = c.loop-i in
    let k : passed ≡ verdict_of c.ask_end.result = sym (ap verdict_of c.in_ok-ask_end.was) in
    let r : ReadAs file (file_script file) (record { verdict = passed; vars = h.head.vars; count = h.head.count }) o.rows c.load_head.new.ranges =
    loads file _ (head_answer (Ok h.head)) _ _ _ h.ensures.0 (record {
      script = λ ranges. load_read file ranges h.head _ _ _ (all_rows a) passed (k ∙ c.ask_end.ensures);
      passes = λ z. refl;
      vars = refl;
      count = refl;
      long = o.invariant.size;
      written = λ z. (all_rows a).written;
    }) in
    let n = o.invariant.size in
    let t = c.requires in
    (r, n, t, fill_none _ _ _ n (read_packable _ _ _ _ r _ t) _ _)

pub put_next-open-requires : goal.put_next-open-requires
put_next-open-requires c =
    let (r, n, t, f) = c.loop-j.invariant in
    fill_ready _ _ c.args.table.now n (read_packable _ _ _ _ r _ t) _ _ _ c.loop-j-test.true f

pub loop-j-preserved : goal.loop-j-preserved
loop-j-preserved c =
    let (r, n, t, f) = c.loop-j.invariant in
    (r, n, t, fill_more _ _ c.args.table.now n (read_packable _ _ _ _ r _ t) _ _ _ _ _ c.loop-j-test.true f c.put_next-open.ensures)

pub returns : goal.returns
returns c =
    let l = c.loop-j in
    let (r, n, t, f) = l.invariant in
    let e : l.j ≡ c.in_ok-head.head.count = omega (arith, f.few, c.loop-j-test.false) in
    read_loaded _ _ _ _ r _ (fill_done _ _ c.args.table.now _ _ n (read_packable _ _ _ _ r _ t) (rw e at f) _ (read_closes _ _ _ _ r))
