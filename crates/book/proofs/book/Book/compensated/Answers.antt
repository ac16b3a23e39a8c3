use Rattle.std.proofs.Common.{◌≡◌, ℕ, ◌-◌, ◌≤◌, List, get_or, nat_abs, sum, sym, ap, ◌∙◌, subst, arith, rules}
use Rattle.std.proofs.lemmas.Int.{ints}
use Rattle.sharing.specs.Claims.{get_d_le_sum}
use Rattle.book.specs.declared.account.Account.{Account}
use Rattle.book.specs.Accounts.{blank, metered_claims}
use Rattle.book.specs.Holds.{ledger_of}
use Rattle.book.proofs.AccountFacts.{claims_each, claims_some}
use Rattle.book.proofs.Figured.{side_bound, debited_bound}
use Rattle.book.proofs.Props.{sound_of}
use Rattle.book.proofs.book.Book.compensated.Goals as goal

pub share_out-requires-clause-each : goal.share_out-requires-clause-each
share_out-requires-clause-each g c = λ i.
    let f = ledger_of g.R.Share.shares c.args.self.now in
    let are : c.as_slice.result.now ≡ metered_claims f.accounts = c.as_slice.ensures.value ∙ c.claims-claims.ensures in
    subst (λ (l : List ℕ). get_or l i 0 ≤ 3000000000) (sym are) (claims_each f.accounts (sound_of f c.args.self.now.sound).fair i)

pub share_out-requires-clause-some : goal.share_out-requires-clause-some
share_out-requires-clause-some g c =
    let f = ledger_of g.R.Share.shares c.args.self.now in
    let are : c.as_slice.result.now ≡ metered_claims f.accounts = c.as_slice.ensures.value ∙ c.claims-claims.ensures in
    omega (arith, ap sum are, claims_some f.accounts c.requires.some)

pub debit-requires-clause-bounded : goal.debit-requires-clause-bounded
debit-requires-clause-bounded g c =
    let f = ledger_of g.R.Share.shares c.args.self.now in
    side_bound f.accounts (sound_of f c.args.self.now.sound).fair

pub change-requires : goal.change-requires
change-requires g c = λ account e.
    let f = ledger_of g.R.Share.shares c.args.self.now in
    let s = sound_of f c.args.self.now.sound in
    let small : (k : ℕ) → get_or c.share_out.new.parts k 0 ≤ 100000000 = λ i. omega (arith, get_d_le_sum c.share_out.new.parts i, c.share_out.ensures.adds, c.requires.fen) in
    let bound = debited_bound f.accounts c.share_out.new.parts (side_bound f.accounts s.fair) small (c.args.plant.number - 1) in
    let before = ap (λ xs. nat_abs (get_or xs (c.args.plant.number - 1) blank).side.count) c.debit.ensures in
    let side : nat_abs account.now.side.count ≤ 400000000000000000 = omega (arith, ap (λ (a : Account). nat_abs a.side.count) e, before, bound) in
    let amount : nat_abs c.credit-credit.result.count ≤ 400000000000000000 = omega (arith, ints, c.credit-credit.ensures, c.requires.fen) in
    search rules
