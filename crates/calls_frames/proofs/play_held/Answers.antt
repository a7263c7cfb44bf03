-- `calls_frames::play_held` meets its contract. Assumes nothing.
use mathlib.Core.Path.{refl}
use native.Mathlib.Omega.{arith}
use Rattle.calls_frames.proofs.Telling.{uncounted, answerable, framed}
use Rattle.calls_frames.proofs.play_held.Goals as goal

pub play-ended-requires : goal.play-ended-requires
play-ended-requires c = (c.requires, uncounted)

pub answers-scripts-requires : goal.answers-scripts-requires
answers-scripts-requires c = let on = c.requires.4 in (omega (arith, on.number, on.fits.few), answerable _ _ _ _ _ _ on _ _ _ (c.play-ended.ensures _ _ _ _ on))

pub returns : goal.returns
returns c fs ss ps roles on = framed _ _ _ _ _ _ on _ _ _ (c.play-ended.ensures _ _ _ _ on) _ c.answers-scripts.ensures 0 _ refl
