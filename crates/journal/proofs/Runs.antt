-- Runs that grow by one call at their end, and the law of a whole run. Assumes nothing.
use Rattle.std.proofs.Common.{◌≡◌, ℕ, ◌+◌, ◌<◌, ◌≤◌, true, not, List, [], ◌∷◌, ◌++◌, length, get_or, take, set, None, ap, ◌∙◌, subst, arith}
use Rattle.std.proofs.lemmas.List.{take_more, take_more_set, take_all}
use Rattle.std.proofs.lemmas.Bool.{not-false}
use Rattle.units.specs.declared.price.Price.{Price}
use Rattle.sharing.specs.Declining.{placed}
use Rattle.market.specs.Laws.{Lawful}
use Rattle.book.specs.declared.call.Call.{Call}
use Rattle.book.specs.declared.refusal.Refusal.TheVariants.{PastLimit}
use Rattle.book.specs.Calls.{Answer, Makes, open_within, open_declined, after_open}
use Rattle.book.specs.Ledgers.{Ledger, opened}
use Rattle.book.specs.Tallies.{Run}
use Rattle.book.specs.Tallies.Run.{none, then}
use Rattle.book.proofs.Runs.{run_law}
use Rattle.book.proofs.Tables.{passed}
use Rattle.journal.specs.Replays.{Ran}

run_push : {b b' b'' : Ledger} {cs : List Call} {answers : List Answer} (c : Call) (a : Answer) → Run b cs answers b' → Makes b' c b'' a → Run b (cs ++ c ∷ []) (answers ++ a ∷ []) b''
run_push c a none m = then m none
run_push c a (then n r) m = then n (run_push c a r m)

-- One call more: the first i of the calls are made, and then the one at i.
pub run_more : (b b' b'' : Ledger) (cs : List Call) (answers : List Answer) (i : ℕ) (d c : Call) (a : Answer) → i < length cs → length answers ≡ length cs → c ≡ get_or cs i d → Run b (take i cs) (take i answers) b' → Makes b' c b'' a → Run b (take (i + 1) cs) (take (i + 1) (set answers i a)) b''
run_more b b' b'' cs answers i d c a h e f r m = rw (take_more cs i d h, take_more_set answers i a (omega arith), ← f) (run_push c a r m)

-- All calls are made.
pub run_whole : (b b' : Ledger) (cs : List Call) (answers : List Answer) (i : ℕ) → length cs ≤ i → length answers ≡ length cs → Run b (take i cs) (take i answers) b' → Run b cs answers b'
run_whole b b' cs answers i h e r =
    let p = take_all i cs h in
    let q = take_all i answers (omega arith) in
    subst (λ xs. Run b xs answers b') p (subst (λ xs. Run b (take i cs) xs b') q r)

-- An open that is not declined, and then a run.
pub ran : (shares : List ℕ → ℕ → List ℕ) → Lawful shares → (m : ℕ) (q : Price) (f b g : Ledger) (cs : List Call) (answers : List Answer) → open_declined m q ≡ None → b ≡ after_open f m q shares → Run b cs answers g → Ran shares m q cs answers g
ran shares lawful m q f b g cs answers e left r =
    let start : b ≡ opened m q shares = left ∙ ap (λ w. placed w (opened m q shares) f) e in
    let whole : Run (opened m q shares) cs answers g = subst (λ l. Run l cs answers g) start r in
    let within : open_within m q ≡ true = not-false _ (passed ((not (open_within m q), PastLimit) ∷ []) e).0 in
    record { run = whole; keeps = run_law shares lawful m q within cs answers g whole }
