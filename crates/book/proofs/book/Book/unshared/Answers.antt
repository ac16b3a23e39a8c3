use Rattle.std.proofs.Common.{◌≡◌, rules, tests}
use Rattle.std.proofs.lemmas.Iterator.{YieldsList-from_slice}
use Rattle.std.proofs.lemmas.Iterator.Search.{any_from_yields_List}
use Rattle.book.specs.Accounts.{any_account, is_unmetered, has_generated}
use Rattle.book.specs.Calls.{unshared}
use Rattle.book.proofs.book.Book.unshared.Goals as goal

pub returns-then-any : goal.returns-then-any
unfolding unshared
returns-then-any g c =
    let unmetered : c.any.result ≡ any_account is_unmetered c.args.self.now.accounts.rows = any_from_yields_List is_unmetered _ _ c.any.result c.any.ensures.ran (YieldsList-from_slice c.args.self.now.accounts.rows cc) (λ x b q k. search (rules, tests)) in
    search rules

pub returns-else-any : goal.returns-else-any
unfolding unshared
returns-else-any g c =
    let unmetered : c.any.result ≡ any_account is_unmetered c.args.self.now.accounts.rows = any_from_yields_List is_unmetered _ _ c.any.result c.any.ensures.ran (YieldsList-from_slice c.args.self.now.accounts.rows cc) (λ x b q k. search (rules, tests)) in
    let generated : c.any-else-any.result ≡ any_account has_generated c.args.self.now.accounts.rows = any_from_yields_List has_generated _ _ c.any-else-any.result c.any-else-any.ensures.ran (YieldsList-from_slice c.args.self.now.accounts.rows cc) (λ x b q k. search (rules, tests)) in
    search rules
