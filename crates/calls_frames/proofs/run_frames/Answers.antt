-- `calls_frames::run_frames` meets its contract. Assumes nothing.
use mathlib.Core.Path.{◌∙◌, sym}
use mathlib.Core.List.{List}
use borrow.Author.Rules.{rules}
use Rattle.rules_frames.specs.Frames
use Rattle.rules.proofs.PassedOn.{passed_on}
use Rattle.calls_lists.specs.Parts.{lent_of}
use Rattle.calls_frames.specs.Playing.{FramesReady}
use Rattle.calls_frames.proofs.Refusing.{may_play, no_play}
use Rattle.calls_frames.proofs.run_frames.Goals as goal
use Rattle.calls_frames.proofs.run_frames.Goals.{In_ok-all}

-- all scripts may play
ready : (c : In_ok-all)
    → let a = c.args in
    (roles : List Frames.Progress) × FramesReady a.prices.now (lent_of a.files.now a.file_lengths.now a.stores.now a.store_lengths.now a.picks.now a.pick_lengths.now) a.q roles c.enter_all.new.tables c.in_ok-all.all
ready c = may_play _ _ _ c.requires.0 c.requires.1 _ _ (c.in_ok-all.ensures c.args.picks.now) c.enter_all.auto.tables

pub play_held-requires : goal.play_held-requires
play_held-requires c = let a = c.args in let (roles, on) = ready (goal.at.play_held-requires c).In_ok-all in (a.file_lengths.now, a.store_lengths.now, a.pick_lengths.now, roles, on)

pub returns-in_err-all : goal.returns-in_err-all
returns-in_err-all c =
    let e = c.in_err-all in
    rw (passed_on c.from_residual.result e.field-0.0 c.from_residual.ensures) (no_play _ _ _ c.requires.0 c.requires.1 _ e.field-0.0 (e.ensures c.args.picks.now))

pub returns : goal.returns
returns c =
    let (roles, on) = ready (goal.at.returns c).In_ok-all in
    record { framed = rw on.ready (c.play_held.ensures _ _ _ roles on); script = sym (c.in_ok-all.ensures c.args.picks.now).none }
