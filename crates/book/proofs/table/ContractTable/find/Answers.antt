use Rattle.std.proofs.Common.{◌≡◌, ◌<◌, length, get_or, Some, sym, ap, ◌∙◌, arith}
use Rattle.book.specs.declared.row.Row.{Row}
use Rattle.book.specs.Rows.{place_of}
use Rattle.book.proofs.TableLoops.{blank_row, named_at, none_named, place_within}
use Rattle.book.proofs.table.ContractTable.find.Goals as goal

pub returns-then-i-len : goal.returns-then-i-len
returns-then-i-len c =
    let rows = c.args.self.now.rows in
    sym (none_named c.args.number rows.items blank_row c.requires (λ w e. absurd (omega (arith, w, c.place-i.ensures, c.if-i-len.true, c.len.ensures, rows.ok.0))))

pub index-row-requires : goal.index-row-requires
index-row-requires c =
    let rows = c.args.self.now.rows in
    omega (arith, place_within c.args.number rows.items, c.place-i.ensures, c.if-i-len.false, c.len.ensures, rows.ok.0)

pub returns-then-row-number : goal.returns-then-row-number
returns-then-row-number c =
    let rows = c.args.self.now.rows in
    let n = c.args.number in
    let row = c.index-row.result.now in
    let is : row ≡ get_or rows.items (place_of n rows.items) row = c.index-row.ensures ∙ ap (λ i. get_or rows.items i row) c.place-i.ensures in
    let within : place_of n rows.items < length rows.items = omega (arith, place_within n rows.items, c.place-i.ensures, c.if-i-len.false, c.len.ensures, rows.ok.0) in
    ap Some is ∙ sym (named_at n rows.items row c.requires within (sym (ap (λ (r : Row). r.number) is) ∙ c.if-row-number.true))

pub returns-else-row-number : goal.returns-else-row-number
returns-else-row-number c =
    let rows = c.args.self.now.rows in
    let n = c.args.number in
    let row = c.index-row.result.now in
    let is : row ≡ get_or rows.items (place_of n rows.items) row = c.index-row.ensures ∙ ap (λ i. get_or rows.items i row) c.place-i.ensures in
    sym (none_named n rows.items row c.requires (λ w e. c.if-row-number.false (ap (λ (r : Row). r.number) is ∙ e)))
