-- `table::kind_at` meets its contract.
use mathlib.Core.Path.{◌≡◌, refl, sym, ◌∙◌, ap}
use mathlib.Core.List.{List}
use Prim.Native.Nat.{ℕ}
use mir.Facts.{to_z-of_z}
use borrow.Author.Rules.{rules, sfits_of}
use Rattle.rules.specs.declared.Kind.{Kind}
use Rattle.rules.specs.declared.Kind.TheVariants.{Set, Move, Cue, While, Do, For, Off, Hold}
use Rattle.table.specs.declared.Tag.{Tag}
use Rattle.table.specs.Code.{comparison_by, comparison_in, constant_in, kind_by, numbers_at, kind_at, rows_of}
use Rattle.table.proofs.Laws.{kind_is}
use Rattle.table.proofs.kind_at.Statement.{statement}
use Rattle.table.proofs.kind_at.Tie as tie

abbrev table : tie.After-tag_at → List ℕ
table c = c.args.rows.now

abbrev row : tie.After-tag_at → ℕ
row c = c.args.i

-- the kind by the tag
is : (c : tie.After-tag_at) {h : Tag} {k : Kind} → c.tag_at.result ≡ h → k ≡ kind_by h (numbers_at (table c) (row c)) → k ≡ kind_at (rows_of (table c)) (row c)
is c q e = e ∙ sym (kind_is (table c) (row c) c.requires c.tag_at.ensures q)

compared : (c : tie.After-tag_at) → c.comparison-c.result ≡ comparison_by (comparison_in (numbers_at (table c) (row c)))
compared c = c.comparison-c.ensures ∙ ap comparison_by c.comparison_at.ensures

returns-9 : tie.Need-returns-in-For
unfolding kind_by
returns-9 c =
    let a = c.before.before.before.before in
    is a c.in-For.is
    (λ z. For (a.variable_at-v.ensures z) (c.operand_at-in-For.ensures z) (compared a z) (c.limit_at-in-For.ensures z) (c.change_at-in-For.ensures z))

returns-10 : tie.Need-returns-in-Off
unfolding kind_by
returns-10 c =
    let a = c.before.before.before.before in
    let k = c.constant.ensures ∙ ap constant_in c.limit_value_at.ensures in
    rw (to_z-of_z (sfits_of c.constant.type_inv))
    (is a c.in-Off.is
    (λ z. Off (a.variable_at-v.ensures z) (c.watched_at.ensures z) (compared a z) (k z)))

pub kind_at_spec : {M : Type 1} → statement M
unfolding kind_by
kind_at_spec =
    tie.close
    (tie.spec
    (λ c κs. search rules) (λ c κs. search rules) (λ c κs. search rules) (λ c κs. search rules)
    (λ c. search rules) (λ c. search rules) (λ c. search rules)
    (λ c. search rules) (λ c κs. search rules)
    (λ c. search rules) (λ c κs. search rules)
    (λ c. search rules) (λ c κs. search rules)
    (λ c. search rules) (λ c κs. search rules)
    (λ c. search rules) (λ c κs. search rules)
    (λ c. search rules) (λ c κs. search rules) (λ c κs. search rules) (λ c κs. search rules)
    (λ c. search rules) (λ c κs. search rules) (λ c κs. search rules) (λ c κs. search rules)
    (λ c. search rules)
    (λ c. is c.before c.in-End.is refl)
    (λ c. is c.before c.in-Else.is refl)
    (λ c. is c.before c.in-Pick.is refl)
    (λ c. let a = c.before.before in is a c.in-Set.is (λ z. Set (a.variable_at-v.ensures z) (c.operand_at.ensures z)))
    (λ c. let a = c.before.before in is a c.in-Move.is (λ z. Move (a.variable_at-v.ensures z) (c.change_at.ensures z)))
    (λ c. let a = c.before.before in is a c.in-Cue.is (ap Cue c.number_at.ensures))
    (λ c. let a = c.before.before in is a c.in-While.is (λ z. While (a.variable_at-v.ensures z) (compared a z) (c.limit_at.ensures z)))
    (λ c. let a = c.before.before in is a c.in-Do.is (λ z. Do (a.variable_at-v.ensures z) (compared a z) (c.limit_at-in-Do.ensures z)))
    returns-9
    returns-10
    (λ c. let a = c.before in is a c.in-Hold.is (ap Hold a.variable_at-v.ensures)))
