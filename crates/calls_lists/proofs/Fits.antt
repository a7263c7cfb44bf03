-- What question 20's yes says. Assumes nothing.
use Prim.Native.Nat.{ℕ}
use lib.Dec.{T, leb, eqb, leb→le, eqb→eq}
use lib.ListN.{length}
use Rattle.ints.proofs.Diffs.{both}
use Rattle.rules_frames.specs.Frames.{Lent, total, within, counted, covered, fitting}
use Rattle.calls_lists.specs.Parts.{Fitted}

pub fitted : (l : Lent) (q : ℕ) → T (fitting l q) → Fitted l q
unfolding fitting counted covered
fitted l q h =
    let n = length l.file_lengths in
    let (a, b) = both (counted l) _ h in
    let (c, d) = both (covered l) _ b in
    let (tick, small) = both (leb 1 q) _ d in
    let (size, alike) = both (within 1 8 n) _ a in
    let (some, few) = both (leb 1 n) _ size in
    let (stores, picks) = both (eqb (length l.store_lengths) n) _ alike in
    let (files, rest) = both (eqb (total l.file_lengths) (length l.files)) _ c in
    let (kept, last) = both (eqb (total l.store_lengths) (length l.stores)) _ rest in
    record {
      some = leb→le 1 n some;
      few = leb→le n 8 few;
      stores = eqb→eq _ n stores;
      picks = eqb→eq _ n picks;
      file_sum = eqb→eq _ _ files;
      store_sum = eqb→eq _ _ kept;
      pick_sum = eqb→eq _ _ last;
      tick = leb→le 1 q tick;
      small = leb→le q 1_000_000 small;
    }
