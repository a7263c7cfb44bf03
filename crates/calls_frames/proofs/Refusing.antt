-- What the readiness says of the call. Assumes nothing.
use mathlib.Core.Path.{◌≡◌, refl, ap, subst}
use mathlib.Core.List.{List}
use Prim.Native.Nat.{ℕ}
use lib.ListN.{length}
use Rattle.std.specs.Prelude.{Ok, Err}
use Rattle.rules.specs.Calls.{Priced, prices_of, scratch_size}
use Rattle.rules_frames.specs.Frames
use Rattle.rules_frames.specs.Frames.{Lent, parts_of, readiness, played_by, FramesReply, stores_after}
use Rattle.calls_lists.specs.Parts.{Fitted}
use Rattle.calls_scripts.specs.declared.HeldScripts as code
use Rattle.calls_scripts.specs.declared.ScriptRefusal.{ScriptRefusal}
use Rattle.calls_scripts.specs.Held.{AllHeld, OneRefused}
use Rattle.calls_frames.specs.Playing.{FramesReady}
use Rattle.calls_frames.specs.Answers.{frames_answer, FramedScripts}

module _ (prices : List ℕ) (l : Lent) (q : ℕ) (priced : Priced prices) (fits : Fitted l q) (tables : List ℕ) where
  -- all may play
  pub may_play : (c : code.HeldScripts) → AllHeld prices l tables c → length tables ≡ 8_192 → (ps : List Frames.Progress) × FramesReady prices l q ps tables c
  may_play c h eight = let (ps, ready, holds) = h.held in (ps, record { priced = priced; fits = fits; ready = ready; eight = eight; number = h.number; holds = holds })

  -- one is refused
  pub no_play : (r : ScriptRefusal) → OneRefused prices l tables r → FramedScripts prices l q l.stores (frames_answer (Err r))
  unfolding played_by stores_after
  no_play r h =
      let reply : played_by (prices_of prices) q (readiness prices scratch_size (parts_of l)) ≡ FramesReply.refuses r.refusal.number r.refusal.place = ap (played_by (prices_of prices) q) h.refused in
      record { framed = rw reply (record { told = refl; stores = refl }); script = h.script }
