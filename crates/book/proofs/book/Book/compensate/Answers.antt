use Rattle.std.proofs.Common.{◌≡◌, true, false, None, sym, refl, ap, ◌∙◌, rules, tests}
use Rattle.std.proofs.lemmas.Iterator.{YieldsList-from_slice}
use Rattle.std.proofs.lemmas.Iterator.Search.{any_from_yields_List}
use Rattle.book.specs.declared.call.Call.TheVariants.{Compensate}
use Rattle.book.specs.Accounts.{any_account, is_past_side_limit, compensated}
use Rattle.book.specs.Calls.{declined, accepted, compensated_in}
use Rattle.book.specs.Holds.{ledger_of}
use Rattle.book.proofs.Figured.{compensation_decides, generated, makes_for}
use Rattle.book.proofs.Kept.{compensate_sound}
use Rattle.book.proofs.Makings.{makes_accepted, makes_declined, same_accounts}
use Rattle.book.proofs.Props.{sound_of, kept}
use Rattle.book.proofs.book.Book.compensate.Goals as goal

pub compensated-next-requires : goal.compensated-next-requires
compensated-next-requires g c =
    let f = ledger_of g.R.Share.shares c.args.self.now in
    let told = c.in_ok-fen.ensures in
    record { fen = told.2; some = generated f c.in_ok-plant.plant.number c.args.amount told.0 }

pub returns-then-any : goal.returns-then-any
returns-then-any g c =
    let f = ledger_of g.R.Share.shares c.args.self.now in
    let told = c.in_ok-fen.ensures in
    let next : c.compensated-next.result.rows ≡ compensated_in f c.in_ok-plant.plant.number c.args.amount = c.compensated-next.ensures ∙ ap (λ n. compensated f.shares c.in_ok-plant.plant.number n f.accounts) told.1 in
    let found : c.any.result ≡ any_account is_past_side_limit c.compensated-next.result.rows = any_from_yields_List is_past_side_limit _ _ c.any.result c.any.ensures.ran (YieldsList-from_slice c.compensated-next.result.rows cc) (λ x b q k. search (rules, tests)) in
    let past : any_account is_past_side_limit (compensated_in f c.in_ok-plant.plant.number c.args.amount) ≡ true = ap (any_account is_past_side_limit) (sym next) ∙ sym found ∙ c.if-any.true in
    makes_for (ap (λ n. Compensate n c.args.amount) c.in_ok-plant.ensures) (makes_declined f (Compensate c.in_ok-plant.plant.number c.args.amount) _ (compensation_decides f c.in_ok-plant.plant.number c.args.amount true told.0 past))

pub invariant_of-self : goal.invariant_of-self
invariant_of-self g c =
    let b = c.args.self.now in
    let f = ledger_of g.R.Share.shares b in
    let told = c.in_ok-fen.ensures in
    let next : c.compensated-next.result.rows ≡ compensated_in f c.in_ok-plant.plant.number c.args.amount = c.compensated-next.ensures ∙ ap (λ n. compensated f.shares c.in_ok-plant.plant.number n f.accounts) told.1 in
    let found : c.any.result ≡ any_account is_past_side_limit c.compensated-next.result.rows = any_from_yields_List is_past_side_limit _ _ c.any.result c.any.ensures.ran (YieldsList-from_slice c.compensated-next.result.rows cc) (λ x b q k. search (rules, tests)) in
    let past : any_account is_past_side_limit (compensated_in f c.in_ok-plant.plant.number c.args.amount) ≡ false = ap (any_account is_past_side_limit) (sym next) ∙ sym found ∙ c.if-any.false in
    let none : declined f (Compensate c.in_ok-plant.plant.number c.args.amount) ≡ None = compensation_decides f c.in_ok-plant.plant.number c.args.amount false told.0 past in
    let sound = compensate_sound f c.in_ok-plant.plant.number c.args.amount (g.met.R.Share.fair b.rule) (sound_of f b.sound) none in
    record { sound = kept (accepted f (Compensate c.in_ok-plant.plant.number c.args.amount)) _ _ _ _ sound refl refl refl next }

pub returns : goal.returns
returns g c =
    let b = c.args.self.now in
    let f = ledger_of g.R.Share.shares b in
    let told = c.in_ok-fen.ensures in
    let next : c.compensated-next.result.rows ≡ compensated_in f c.in_ok-plant.plant.number c.args.amount = c.compensated-next.ensures ∙ ap (λ n. compensated f.shares c.in_ok-plant.plant.number n f.accounts) told.1 in
    let found : c.any.result ≡ any_account is_past_side_limit c.compensated-next.result.rows = any_from_yields_List is_past_side_limit _ _ c.any.result c.any.ensures.ran (YieldsList-from_slice c.compensated-next.result.rows cc) (λ x b q k. search (rules, tests)) in
    let past : any_account is_past_side_limit (compensated_in f c.in_ok-plant.plant.number c.args.amount) ≡ false = ap (any_account is_past_side_limit) (sym next) ∙ sym found ∙ c.if-any.false in
    let none : declined f (Compensate c.in_ok-plant.plant.number c.args.amount) ≡ None = compensation_decides f c.in_ok-plant.plant.number c.args.amount false told.0 past in
    makes_for (ap (λ n. Compensate n c.args.amount) c.in_ok-plant.ensures) (makes_accepted f (Compensate c.in_ok-plant.plant.number c.args.amount) _ _ none (same_accounts f _ _ next) refl)
