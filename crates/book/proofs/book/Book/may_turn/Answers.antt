use Rattle.std.proofs.Common.{◌≡◌, rules, tests}
use Rattle.std.proofs.lemmas.Iterator.{YieldsList-from_slice}
use Rattle.std.proofs.lemmas.Iterator.Search.{any_from_yields_List}
use Rattle.book.specs.Accounts.{any_account, is_unclosed}
use Rattle.book.proofs.book.Book.may_turn.Goals as goal

pub returns-then-any : goal.returns-then-any
returns-then-any g c =
    let closed : c.any.result ≡ any_account is_unclosed c.args.self.now.accounts.rows = any_from_yields_List is_unclosed _ _ c.any.result c.any.ensures.ran (YieldsList-from_slice c.args.self.now.accounts.rows cc) (λ x b q k. search (rules, tests)) in
    search rules

pub returns : goal.returns
returns g c =
    let closed : c.any.result ≡ any_account is_unclosed c.args.self.now.accounts.rows = any_from_yields_List is_unclosed _ _ c.any.result c.any.ensures.ran (YieldsList-from_slice c.args.self.now.accounts.rows cc) (λ x b q k. search (rules, tests)) in
    search rules
