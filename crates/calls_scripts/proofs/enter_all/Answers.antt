-- `calls_scripts::enter_all` meets its contract. Assumes nothing.
use Rattle.rules.specs.Verdicts.{refused}
use mathlib.Core.Path.{◌≡◌, refl, sym, ◌∙◌, ap, subst, subst₂}
use Rattle.std.specs.Prelude.{Ok}
use mathlib.Core.List.{List, []}
use Prim.Native.Nat.{ℕ, ◌<◌}
use native.Mathlib.Omega.{arith}
use borrow.Author.Rules.{rules}
use Rattle.calls_lists.specs.Parts.{part_of, lent_of}
use Rattle.calls_lists.proofs.Extents.{extent_part, extent_within}
use Rattle.calls_scripts.specs.Held.{table_lengths, entered_by, EnteredAs}
use Rattle.calls_scripts.proofs.Tables.{table_size, tables_whole, put_length}
use Rattle.calls_scripts.proofs.Entering.{Entering, entering_none, entering_more, entering_all, entering_no, entering_which, entering_no_one}
use Rattle.calls_scripts.proofs.enter_all.Goals as goal
use Rattle.calls_scripts.proofs.enter_all.Goals.{In-loop-k, After-enter_at}

pub loop-k-init : goal.loop-k-init
loop-k-init c picks = entering_none _ _ _ _ (search rules) c.requires.all_tables

-- script k is one of 8
one_of_8 : (c : In-loop-k) → c.loop-k.k < 8
one_of_8 c = omega (arith, c.requires.lengths.few, c.loop-k-test.true)

pub enter_at-requires : goal.enter_at-requires
enter_at-requires c =
    let l = c.loop-k in
    let p = c.places_of-places.ensures in
    let i = c.loop-k-test.true in
    let k = one_of_8 (goal.at.enter_at-requires c).In-loop-k in
    record {
      priced = c.requires.priced;
      file = extent_within _ _ _ p.file c.args.files.now i c.requires.all_files;
      store = extent_within _ _ _ p.store c.args.stores.now (omega (arith, c.requires.lengths.stores, i)) c.requires.all_stores;
      table = extent_within _ _ _ p.table l.tables k (tables_whole l.tables (l.invariant []).whole);
      whole = omega (arith, p.table.to, table_size l.k k);
    }

-- script k has entered, by its parts
entered : (c : After-enter_at)
    → let a = c.args in
    let k = c.loop-k.k in
    EnteredAs a.prices.now (part_of a.file_lengths.now k a.files.now) (part_of a.store_lengths.now k a.stores.now) c.enter_at.ensures.table (entered_by c.enter_at.result)
entered c =
    let a = c.args in
    let p = c.places_of-places.ensures in
    subst₂ (λ f s. EnteredAs a.prices.now f s c.enter_at.ensures.table (entered_by c.enter_at.result)) (extent_part _ _ _ p.file a.files.now) (extent_part _ _ _ p.store a.stores.now) c.enter_at.ensures.entered

pub loop-k-preserved : goal.loop-k-preserved
loop-k-preserved c picks =
    let q = goal.at.loop-k-preserved c in
    let l = c.loop-k in
    let p = c.places_of-places in
    entering_more _ _ l.k l.tables _ l.each (one_of_8 q.In-loop-k) (l.invariant picks) p.result p.ensures (entered_by (Ok c.in-Ok.count)) _ c.enter_at.ensures.wrote
    (subst (λ r. EnteredAs c.args.prices.now (part_of c.args.file_lengths.now l.k c.args.files.now) (part_of c.args.store_lengths.now l.k c.args.stores.now) c.enter_at.ensures.table (entered_by r)) c.in-Ok.is (entered q.After-enter_at)) refl

pub returns-in-Err : goal.returns-in-Err
returns-in-Err c picks =
    let q = goal.at.returns-in-Err c in
    let l = c.loop-k in
    let e : (entered_by c.enter_at.result).verdict ≡ refused c.in-Err.refusal.number c.in-Err.refusal.place = ap (λ r. (entered_by r).verdict) c.in-Err.is in
    record {
      script = entering_which _ _ c.requires.priced c.requires.lengths l.k l.tables l.each (l.invariant picks) c.loop-k-test.true _ (entered_by c.enter_at.result) (entered q.After-enter_at) _ _ e;
      refused = entering_no _ _ c.requires.priced c.requires.lengths l.k l.tables l.each (l.invariant picks) c.loop-k-test.true _ (entered_by c.enter_at.result) (entered q.After-enter_at) _ _ e;
    }

pub returns : goal.returns
returns c picks =
    let l = c.loop-k in
    record {
      none = sym (entering_no_one _ _ c.requires.priced c.requires.lengths l.k l.tables l.each (l.invariant picks) (omega (arith, c.loop-k-test.false, l.auto.k-end)));
      number = refl;
      held = entering_all _ _ c.requires.priced c.requires.lengths l.k l.tables l.each (l.invariant picks) (omega (arith, c.loop-k-test.false, l.auto.k-end));
    }
