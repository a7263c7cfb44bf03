-- `table::put_next` meets its contract: what it does by the row's role. Assumes nothing.
use mathlib.Core.Path.{◌≡◌, refl, sym, ap, subst, ◌∙◌}
use Prim.Native.Nat.{◌-◌, ◌<◌}
use native.Mathlib.Omega.{arith}
use borrow.Author.Rules.{rules}
use Rattle.table.specs.declared.Open.{Open}
use Rattle.table.specs.declared.Role.{Role}
use Rattle.table.specs.Paired.{PartnerPut, EndPut, role_of, head_of, number_of, pushed_on, Room}
use Rattle.table.proofs.Pairing.{Eight, role_end, next_put}
use Rattle.table.proofs.put_next.Statement.{statement}
use Rattle.table.proofs.put_next.Tie as tie

eight : (s : tie.Start) → Eight s.args.blocks
eight s = record { heads = search rules; numbers = search rules }

module _ (a : tie.After-role_of) {r : Role} (told : a.role_of.result ≡ r) where
  role : r ≡ role_of a.args.kind
  role = sym told ∙ a.role_of.ensures

  room : Room r a.args.blocks
  room = subst (λ x. Room x a.args.blocks) (sym role) a.requires.room

-- the innermost head is above the row
above : (s : tie.Start) → 0 < s.args.blocks.depth → head_of s.args.blocks < s.args.i
above s h = s.requires.below (s.args.blocks.depth - 1) (omega arith)

pushed-requires : tie.Need-pushed-requires
pushed-requires c κs = (room c.before.before.before.before.before c.in-Pick.is, c.requires.small)

innermost-requires : tie.Need-innermost-requires
innermost-requires c κs = (room c.before.before c.in-Else.is, c.requires.deep)

set-partner-requires : tie.Need-set_partner-requires
set-partner-requires c κs =
    let s = c.before.before.before.before.before in
    let h = above s (room c.before.before.before c.in-Else.is) in
    (omega (arith, c.innermost.ensures, h, s.requires.size), s.requires.small)

popped-requires : tie.Need-popped-requires
popped-requires c κs = room c.before.before.before.before.before.before.before.before.before.before c.in-Else.is

pushed-requires-2 : tie.Need-pushed-requires-in-Else
pushed-requires-2 c κs =
    let s = c in
    let h = room c.before.before.before.before.before.before.before.before.before.before.before c.in-Else.is in
    (omega (arith, ap (λ (x : Open). x.depth) c.popped.ensures, h, s.requires.deep), s.requires.small)

innermost-requires-2 : tie.Need-innermost-h-requires
innermost-requires-2 c κs = (room c.before c.in-End.is, c.requires.deep)

set-partner-requires-2 : tie.Need-set_partner-requires-in-End
set-partner-requires-2 c κs =
    let s = c.before.before.before.before.before in
    let h = above s (room c.before.before.before c.in-End.is) in
    (omega (arith, c.innermost-h.ensures, h, s.requires.size), s.requires.small)

loops-before-requires : tie.Need-loops_before-requires
loops-before-requires c κs = (room c.before.before.before.before.before.before.before c.in-End.is, c.requires.deep)

put-end-requires : tie.Need-put_end-requires
put-end-requires c κs =
    let s = c.before.before.before.before.before.before.before.before.before.before in
    let h = above s (room c.before.before.before.before.before.before.before.before c.in-End.is) in
    (omega (arith, c.innermost-h.ensures, h), s.requires.small, omega (arith, c.set_partner-in-End.ensures.only.size, s.requires.size))

popped-requires-2 : tie.Need-popped-requires-in-End
popped-requires-2 c κs = room c.before.before.before.before.before.before.before.before.before.before.before c.in-End.is

add-pushed : tie.Need-overflow_add-loops
add-pushed c = omega (arith, (room c.before.before.before.before.before c.in-Loop.is).1)

pushed-requires-3 : tie.Need-pushed-requires-in-Loop
pushed-requires-3 c κs = ((room c.before.before.before.before.before c.in-Loop.is).0, c.requires.small)

returns : tie.Need-returns-in-Plain
returns c =
    let s = c.before.before.before.before.before.before.before in
    next_put _ _ _ _ _ _ Role.Plain (role c.before.before.before.before.before c.in-Plain.is) c.put_row.ensures refl (eight s) s.requires

returns_2 : tie.Need-returns-in-Pick
returns_2 c =
    let s = c.before.before.before.before.before.before.before.before in
    next_put _ _ _ _ _ _ Role.Pick (role c.before.before.before.before.before.before c.in-Pick.is) c.put_row-in-Pick.ensures c.pushed.ensures (eight s) s.requires

returns_3 : tie.Need-returns-in-Else
returns_3 c =
    let s = c.before.before.before.before.before.before.before.before.before.before.before.before.before.before in
    let i = s.args.i in
    let u = c.set_partner.new.rows in
    next_put _ _ _ _ _ _ Role.Else (role c.before.before.before.before.before.before.before.before.before.before.before.before c.in-Else.is)
    (u, subst (λ h. PartnerPut h i s.args.rows.now u) c.innermost.ensures c.set_partner.ensures, c.put_row-in-Else.ensures)
    (c.pushed-in-Else.ensures ∙ ap (λ x. pushed_on i s.args.blocks.loops x) c.popped.ensures)
    (eight s) s.requires

returns-4 : tie.Need-returns-in-End
returns-4 c =
    let s = c.before.before.before.before.before.before.before.before.before.before.before.before.before.before in
    let i = s.args.i in
    let u = c.set_partner-in-End.new.rows in
    let t = c.put_end.new.rows in
    let e = c.innermost-h.ensures in
    let r = role c.before.before.before.before.before.before.before.before.before.before.before.before c.in-End.is in
    next_put _ _ _ _ _ _ Role.End r (
      u,
      subst (λ h. PartnerPut h i s.args.rows.now u) e c.set_partner-in-End.ensures,
      subst (λ h. EndPut h i (number_of s.args.blocks) u t) e
          (subst (λ n. EndPut c.innermost-h.result i n u t) c.loops_before.ensures c.put_end.ensures),
      role_end s.args.kind r,
    )
    c.popped-in-End.ensures
    (eight s) s.requires

returns-5 : tie.Need-returns-in-Loop
returns-5 c =
    let s = c.before.before.before.before.before.before.before.before in
    next_put _ _ _ _ _ _ Role.Loop (role c.before.before.before.before.before.before c.in-Loop.is) c.put_row-in-Loop.ensures c.pushed-in-Loop.ensures (eight s) s.requires

pub put_next_spec : {M : Type 1} → statement M
put_next_spec =
    tie.close
    (tie.spec
    (λ c κs. search rules)
    (λ c. search rules) (λ c κs. search rules)
    (λ c. search rules) (λ c κs. search rules)
    pushed-requires
    (λ c. search rules)
    innermost-requires
    set-partner-requires
    (λ c κs. search rules)
    popped-requires
    pushed-requires-2
    (λ c. search rules)
    innermost-requires-2
    set-partner-requires-2
    loops-before-requires
    put-end-requires
    popped-requires-2
    (λ c. search rules) (λ c κs. search rules)
    add-pushed
    pushed-requires-3
    (λ c. search rules)
    returns
    (λ c. search rules)
    returns_2
    (λ c. search rules)
    returns_3
    (λ c. search rules)
    returns-4
    (λ c. search rules)
    returns-5)
