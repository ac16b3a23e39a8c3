use Rattle.std.proofs.Common.{◌≡◌, Some, sym, ◌∙◌, rules}
use Rattle.book.specs.Holds.{ledger_of}
use Rattle.book.proofs.Figured.{row_plant, owner_sum, owner_le}
use Rattle.book.specs.Rows.{row_of}
use Rattle.book.proofs.Props.{sound_of}
use Rattle.book.proofs.book.Book.may_amend.Goals as goal

pub find-requires : goal.find-requires
find-requires g c =
    let f = ledger_of g.R.Share.shares c.args.self.now in
    (sound_of f c.args.self.now.sound).rises

pub holding-requires : goal.holding-requires
holding-requires g c =
    let f = ledger_of g.R.Share.shares c.args.self.now in
    let found : row_of c.args.number f.rows ≡ Some c.in_ok-row.row = sym c.find.ensures ∙ c.in_ok-row.ensures.ok_part in
    row_plant f c.args.number c.in_ok-row.row (sound_of f c.args.self.now.sound) found

pub plant_sum-requires : goal.plant_sum-requires
plant_sum-requires g c =
    let f = ledger_of g.R.Share.shares c.args.self.now in
    (sound_of f c.args.self.now.sound).sums c.in_ok-row.row.plant

pub overflow_sub-rest : goal.overflow_sub-rest
overflow_sub-rest g c =
    let f = ledger_of g.R.Share.shares c.args.self.now in
    let s = sound_of f c.args.self.now.sound in
    let found : row_of c.args.number f.rows ≡ Some c.in_ok-row.row = sym c.find.ensures ∙ c.in_ok-row.ensures.ok_part in
    let low = owner_le c.args.number f.rows c.in_ok-row.row s.rises found in
    search rules

pub overflow_add-rest : goal.overflow_add-rest
overflow_add-rest g c =
    let f = ledger_of g.R.Share.shares c.args.self.now in
    let s = sound_of f c.args.self.now.sound in
    let found : row_of c.args.number f.rows ≡ Some c.in_ok-row.row = sym c.find.ensures ∙ c.in_ok-row.ensures.ok_part in
    let most = s.sums c.in_ok-row.row.plant in
    search rules

pub returns-then-not-within_limit-2 : goal.returns-then-not-within_limit-2
returns-then-not-within_limit-2 g c =
    let f = ledger_of g.R.Share.shares c.args.self.now in
    let s = sound_of f c.args.self.now.sound in
    let found : row_of c.args.number f.rows ≡ Some c.in_ok-row.row = sym c.find.ensures ∙ c.in_ok-row.ensures.ok_part in
    let sum = owner_sum c.args.number c.args.energy f.rows c.in_ok-row.row s.rises found in
    search rules

pub returns : goal.returns
returns g c =
    let f = ledger_of g.R.Share.shares c.args.self.now in
    let s = sound_of f c.args.self.now.sound in
    let found : row_of c.args.number f.rows ≡ Some c.in_ok-row.row = sym c.find.ensures ∙ c.in_ok-row.ensures.ok_part in
    let sum = owner_sum c.args.number c.args.energy f.rows c.in_ok-row.row s.rises found in
    search rules
