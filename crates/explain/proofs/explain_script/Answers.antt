-- A script that is read can be analysed.
use Rattle.calls.proofs.Tables.{four, fine, analyse_asks}
use Rattle.explain.proofs.explain_script.Goals as goal

pub prices_of-by_kind-requires : goal.prices_of-by_kind-requires
prices_of-by_kind-requires g c = four _ c.requires.1

pub explain_rows-requires : goal.explain_rows-requires
explain_rows-requires g c =
    let s = c in
    let a = analyse_asks _ _ _ _ s.requires.0 (fine s.args.prices.now s.requires.1 c.prices_of-by_kind.ensures) s.requires.1 in
    record { legal = s.requires.0.legal; rows = a.1; held = a.2; few = s.requires.0.few; blank = s.requires.0.blank; prices = a.3; short = a.5; written = a.6 }
