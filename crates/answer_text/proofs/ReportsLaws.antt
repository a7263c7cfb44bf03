-- What a report call leaves in its buffer is what is printed. Assumes nothing.
use mathlib.Core.Path.{◌≡◌, refl, sym, ap}
use mathlib.Core.List.{List, [], ◌++◌, append_assoc}
use Prim.Native.Nat.{ℕ, ◌+◌, ◌≤◌}
use native.Mathlib.Omega.{arith}
use borrow.Author.Tests.{le-leb}
use lib.ListN.{length, take, length-append}
use lib.Seq.{take-append_seam}
use Rattle.rules.specs.Replies.{Accepted, Refused}
use Rattle.rules.specs.Report.{decimal, joined, key_line, newline, gap, script_report}
use Rattle.rules.specs.Calls.{Judged, accepted, refuses, prices_of, judged, buffer_reply, over, written, reply_of, buffer_of}
use Rattle.rules.proofs.LongestReport.{longest_report_lem, decimal_short, key_short}
use Rattle.rules_season.specs.Season.{refused_key, refusal_text}
use Rattle.report.specs.Pieces.{Wrote}
use Rattle.loader.specs.Kept.{Reported}
use Rattle.answer_text.specs.Printed.{printed_text, PrintedIn}

-- ---- a refusal's line
pub refusal_line : (q p : ℕ) → refusal_text q p ≡ (refused_key ++ decimal q) ++ key_line gap p
unfolding refusal_text key_line joined
refusal_line q p = sym (append_assoc refused_key (decimal q) (gap ++ (decimal p ++ (newline ++ []))))

pub refusal_room : (q p : ℕ) → length (refused_key ++ decimal q) + length (key_line gap p) ≤ 50
refusal_room q p = simp length-append (omega (arith, decimal_short q, key_short gap p))

-- ---- a report call with room for every report
module _ (prices file old new : List ℕ) (room : length old ≡ 2_089) where
  abbrev Case : Judged → Type 0
  Case j = judged prices 1_024 file ≡ j

  -- accepted: the report
  pub accepted_printed : (n : ℕ) → Reported prices (judged prices 1_024 file) old new (Accepted n) → PrintedIn (printed_text prices (judged prices 1_024 file)) old new n
  unfolding printed_text reply_of buffer_of buffer_reply written
  accepted_printed n h = go (judged prices 1_024 file) refl h
    where
      go : (j : Judged) → Case j → Reported prices j old new (Accepted n) → PrintedIn (printed_text prices j) old new n
      go (accepted s) e k =
          let t = script_report (prices_of prices) s in
          let l : length t ≤ 2_089 = longest_report_lem prices 1_024 file s e in
          let b = le-leb (length t) (length old) (omega arith) in
          let a : Accepted n ≡ Accepted (length t) = rw b at k.answer in
          let c : n ≡ length t = cc in
          record { wrote = record { count = c; kept = rw b at k.buffer }; short = omega arith }
      go (refuses q p) e k = let a : Accepted n ≡ Refused q p = k.answer in absurd (let z : ◌≡◌ {A = ℕ} 0 1 = cc in omega arith)

  -- refused: its number and place, and the buffer is untouched
  pub refused_printed : (q p : ℕ) → Reported prices (judged prices 1_024 file) old new (Refused q p) → (refusal_text q p ≡ printed_text prices (judged prices 1_024 file)) × (new ≡ old)
  unfolding printed_text reply_of buffer_of buffer_reply
  refused_printed q p h = go (judged prices 1_024 file) refl h
    where
      go : (j : Judged) → Case j → Reported prices j old new (Refused q p) → (refusal_text q p ≡ printed_text prices j) × (new ≡ old)
      go (accepted s) e k =
          let t = script_report (prices_of prices) s in
          let l : length t ≤ 2_089 = longest_report_lem prices 1_024 file s e in
          let b = le-leb (length t) (length old) (omega arith) in
          let a : Refused q p ≡ Accepted (length t) = rw b at k.answer in
          absurd (let z : ◌≡◌ {A = ℕ} 0 1 = cc in omega arith)
      go (refuses r s) e k = let a : Refused q p ≡ Refused r s = k.answer in (cc, k.buffer)

-- the refusal written over it
pub refusal_printed : (q p : ℕ) (text old mid new : List ℕ) (r : ℕ) → refusal_text q p ≡ text → mid ≡ old → Wrote (refusal_text q p) mid new r → PrintedIn text old new r
refusal_printed q p text old mid new r e f w = record {
  wrote = rw f at (rw e at w);
  short = omega (arith, w.count, ap length (refusal_line q p), length-append (refused_key ++ decimal q) (key_line gap p), refusal_room q p);
}

-- the bytes that are answered are the text
pub printed_front : (text old new : List ℕ) (r : ℕ) → PrintedIn text old new r → take r new ≡ text
unfolding over
printed_front text old new r h = rw (h.wrote.kept, h.wrote.count, take-append_seam)
