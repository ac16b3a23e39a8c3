-- The law of every run of calls on a book. Assumes nothing.
use Rattle.std.proofs.Common.{◌≡◌, ℕ, ◌+◌, ◌-◌, ◌≤◌, Bool, true, false, ltb, List, [], ◌∷◌, length, get_or, set, ℤ, pos, ◌+ℤ◌, ◌-ℤ◌, ◌*ℤ◌, nat_abs, is_some, Some, None, Ok, Err, Option, sym, refl, ap, ◌∙◌, subst, ⊎_elim, arith, length-set}
use Rattle.std.proofs.lemmas.List.{get_or-set_same, get_or-set_other, get_or-replicate, get_or-map}
use Rattle.std.proofs.lemmas.Int.{ints}
use Rattle.std.proofs.lemmas.Bool.{false≢true, true≢false, not-false, and_parts, ltb-false, cases_eq}
use Rattle.units.specs.declared.energy.Energy.{Energy}
use Rattle.units.specs.declared.money.Grains.{Grains}
use Rattle.units.specs.declared.price.Price.{Price}
use Rattle.units.specs.Limits.{compensation}
use Rattle.units.specs.Payments.{split}
use Rattle.units.proofs.Paying.{split_paid}
use Rattle.sharing.specs.Declining.{placed}
use Rattle.market.specs.declared.kinds.Class.{Class}
use Rattle.market.specs.declared.kinds.Rank.{Rank}
use Rattle.market.specs.Figures.{settled_energies, settlement_of}
use Rattle.market.specs.Kinds.{class_of, rank_of}
use Rattle.market.specs.Laws.{Lawful, Settles}
use Rattle.book.specs.declared.account.Account.{Account}
use Rattle.book.specs.declared.call.Call.{Call}
use Rattle.book.specs.declared.call.Call.TheVariants.{Enrol, Enter, Amend, Transfer, Meter, Compensate, Issue, Close, Turn}
use Rattle.book.specs.declared.refusal.Refusal.{Refusal}
use Rattle.book.specs.declared.row.Row.{Row}
use Rattle.book.specs.Accounts.{blank, account_of, with_account, is_issued, enrolled_as, with_reading, issued_at, closed_at, turned}
use Rattle.book.specs.Calls.{Answer, at, open_within, fee_for, conditions, declined, entered, transferred, accepted, said, answer_by, after, answer, Makes}
use Rattle.book.specs.Ledgers.{Ledger, opened, plant_in, net_of_plant}
use Rattle.book.specs.Rows.{plant_ok, row_of, with_energy, energy_in_all}
use Rattle.book.specs.Sound.{Sound}
use Rattle.book.specs.Tallies.{Dues, Tally, nothing_due, dues_of, without_carry, without_carries, tally_opened, energy_of, entered_after, raised_after, reduced_after, latest_replaced, dues_after, fed_accepted, fed, fed_all, sum_of, Keeps, Run, RunLaw}
use Rattle.book.specs.Tallies.Run.{none, then}
use Rattle.book.proofs.AccountFacts.{account_same, account_other, fair_at, Same, same_with, same_fee, same_compensated}
use Rattle.book.proofs.Copies.{accepted_without}
use Rattle.book.proofs.Kept.{opened_sound, accepted_sound}
use Rattle.book.proofs.PlantFacts.{plant_settles, at_without, plant_without, net_without}
use Rattle.book.proofs.RowFacts.{kwh_of, in_all_with, in_all_energy, split_in_all, number_found}
use Rattle.book.proofs.Tables.{passed, some_of, said_of, plant_parts, enter_within_lem}

-- ---- what stands between a tally and a book

-- What a plant's dues rest on: its carry, its net at issue, and whether it is closed.
abbrev pub Standing : Type 0
Standing = Grains × Option Grains × Bool

abbrev pub standing_of : Account → Standing
standing_of a = (a.carry, a.issued, a.closed)

-- The latest of the nets is the net at issue.
abbrev pub Latest : Option Grains → List ℤ → Type 0
Latest None ns = Unit {0}
Latest (Some g) [] = ⊥
Latest (Some g) (n ∷ ns) = n ≡ g.count

pub record Agrees (d : Dues) (a : Standing) : Type 0 where
  pub paid_up : d.paid +ℤ a.0.count ≡ sum_of d.nets
  pub latest : a.2 ≡ false → Latest a.1 d.nets

pub record Stands (t : Tally) (b : Ledger) : Type 0 where
  pub copy : t.copy ≡ without_carries b
  pub sound : Sound b
  pub lawful : Lawful b.shares
  pub energies : energy_in_all b.rows + t.reduced ≡ t.entered + t.raised
  pub many : length t.dues ≡ 24
  pub agree : (p : ℕ) → 1 ≤ p → p ≤ 24 → Agrees (dues_of t p) (standing_of (at b p))

pub opened_stands : (m : ℕ) (q : Price) (shares : List ℕ → ℕ → List ℕ) → Lawful shares → open_within m q ≡ true → Stands (tally_opened m q shares) (opened m q shares)
opened_stands m q shares lawful h = record {
  copy = refl;
  sound = opened_sound m q shares h;
  lawful = lawful;
  energies = refl;
  many = refl;
  agree = λ p low high.
      let at_none : dues_of (tally_opened m q shares) p ≡ nothing_due = get_or-replicate 24 (p - 1) nothing_due nothing_due (omega arith) in
      let at_blank : at (opened m q shares) p ≡ blank = get_or-replicate 24 (p - 1) blank blank (omega arith) in
      let new : Agrees nothing_due (standing_of blank) = record { paid_up = refl; latest = λ c. tt } in
      subst (λ d. Agrees d (standing_of (at (opened m q shares) p))) (sym at_none) (subst (λ a. Agrees nothing_due (standing_of a)) (sym at_blank) new);
}

pub keeps : (t : Tally) (b : Ledger) → Stands t b → Keeps t b
keeps t b s = record {
  settles = λ p r low high e.
      subst (λ g. Settles g (settled_energies (plant_in b p)) (settlement_of (plant_in b p))) (sym (ap (λ g. plant_in g p) s.copy ∙ plant_without b p)) (plant_settles b p high s.lawful s.sound);
  energies = s.energies;
  balances = s.sound.balanced;
  payments = λ p low high. (s.agree p low high).paid_up;
  carries = λ p low high i c.
      let same : at t.copy p ≡ without_carry (at b p) = ap (λ g. at g p) s.copy ∙ at_without b p in
      (fair_at p b.accounts (omega (arith, s.sound.full)) s.sound.fair).pending (sym (ap is_issued same) ∙ i) (sym (ap (λ (a : Account). a.closed) same) ∙ c);
}

-- ---- energies

module _ (t : Tally) (b : Ledger) (s : Stands t b) where
  enter_energies : (n p k : ℕ) (e : Energy) (q : Price) → declined b (Enter n p k e q) ≡ None → energy_in_all (accepted b (Enter n p k e q)).rows + t.reduced ≡ t.entered + e.kwh + t.raised
  enter_energies n p k e q h =
      let w = enter_within_lem n p k e q (not-false _ (passed (conditions b (Enter n p k e q)) h).0) in
      let rank = some_of (rank_of k) w.2 in
      let x : Row = record { number = n; plant = p; contract = record { rank = rank.0; energy = e; price = q } } in
      let made = ap (λ o. energy_in_all (entered b n p o e q).rows) rank.1 in
      omega (arith, made, in_all_with x b.rows, s.energies)

  amend_energies : (n : ℕ) (e : Energy) → declined b (Amend n e) ≡ None → energy_in_all (with_energy n e b.rows) + (t.reduced + (energy_of (row_of n t.copy.rows) - e.kwh)) ≡ t.entered + (t.raised + (e.kwh - energy_of (row_of n t.copy.rows)))
  amend_energies n e h =
      let c = some_of (row_of n b.rows) (not-false _ (passed (conditions b (Amend n e)) h).1.0) in
      let old : energy_of (row_of n t.copy.rows) ≡ kwh_of c.0 = ap (λ (g : Ledger). energy_of (row_of n g.rows)) s.copy ∙ ap energy_of c.1 in
      omega (arith, old, in_all_energy n e b.rows c.0 s.sound.rises c.1, s.energies)

  transfer_energies : (n o p : ℕ) (e : Energy) (q : Price) → declined b (Transfer n o p e q) ≡ None → energy_in_all (accepted b (Transfer n o p e q)).rows + t.reduced ≡ t.entered + t.raised
  transfer_energies n o p e q h =
      let k = passed (conditions b (Transfer n o p e q)) h in
      let found = some_of (row_of o b.rows) (not-false _ k.1.1.0) in
      let c = found.0 in
      let own : row_of c.number b.rows ≡ Some c = ap (λ m. row_of m b.rows) (number_found o b.rows c found.1) ∙ found.1 in
      let enough : e.kwh ≤ kwh_of c = ltb-false _ _ (said_of (row_of o b.rows) c (λ (c : Row). ltb c.contract.energy.kwh e.kwh) found.1 k.1.1.1.1.1.1.0) in
      let made = ap (λ x. energy_in_all (transferred b n p e q x).rows) found.1 in
      omega (arith, made, split_in_all n p e c b.rows s.sound.rises own enough, s.energies)

  energies_after : (c : Call) → declined b c ≡ None → energy_in_all (accepted b c).rows + reduced_after t c ≡ entered_after t c + raised_after t c
  energies_after (Enrol p k q) h = s.energies
  energies_after (Enter n p k e q) h = enter_energies n p k e q h
  energies_after (Amend n e) h = amend_energies n e h
  energies_after (Transfer n o p e q) h = transfer_energies n o p e q h
  energies_after (Meter p m c) h = s.energies
  energies_after (Compensate p a) h = s.energies
  energies_after (Issue p) h = s.energies
  energies_after (Close p) h = s.energies
  energies_after (Turn q) h = refl

-- ---- the rule stays

entered_shares : (f : Ledger) (n p : ℕ) (o : Option Rank) (e : Energy) (q : Price) → (entered f n p o e q).shares ≡ f.shares
entered_shares f n p None e q = refl
entered_shares f n p (Some r) e q = refl

transferred_shares : (f : Ledger) (n p : ℕ) (e : Energy) (q : Price) (o : Option Row) → (transferred f n p e q o).shares ≡ f.shares
transferred_shares f n p e q None = refl
transferred_shares f n p e q (Some c) = refl

pub same_shares : (f : Ledger) (c : Call) → (accepted f c).shares ≡ f.shares
same_shares f (Enrol p k q) = refl
same_shares f (Enter n p k e q) = entered_shares f n p (rank_of k) e q
same_shares f (Amend n e) = refl
same_shares f (Transfer n o p e q) = transferred_shares f n p e q (row_of o f.rows)
same_shares f (Meter p m c) = refl
same_shares f (Compensate p a) = refl
same_shares f (Issue p) = refl
same_shares f (Close p) = refl
same_shares f (Turn q) = refl

-- ---- payments

-- What a call pays, 0 where it pays nothing.
abbrev fen_of : Answer → ℤ
fen_of (Ok None) = pos 0
fen_of (Ok (Some fen)) = fen.count
fen_of (Err why) = pos 0

fed_said : (t : Tally) (b : Ledger) (c : Call) → fed t c (said b c) ≡ fed_accepted t c (fen_of (said b c))
fed_said t b (Enrol p k q) = refl
fed_said t b (Enter n p k e q) = refl
fed_said t b (Amend n e) = refl
fed_said t b (Transfer n o p e q) = refl
fed_said t b (Meter p m c) = refl
fed_said t b (Compensate p a) = refl
fed_said t b (Issue p) = refl
fed_said t b (Close p) = refl
fed_said t b (Turn q) = refl

many_after : (t : Tally) (c : Call) (fen : ℤ) → length t.dues ≡ 24 → length (dues_after t c fen) ≡ 24
many_after t (Enrol p k q) fen h = h
many_after t (Enter n p k e q) fen h = h
many_after t (Amend n e) fen h = h
many_after t (Transfer n o p e q) fen h = h
many_after t (Meter p m c) fen h = h
many_after t (Compensate p a) fen h = h
many_after t (Issue p) fen h = length-set t.dues (p - 1) _ ∙ h
many_after t (Close p) fen h = length-set t.dues (p - 1) _ ∙ h
many_after t (Turn q) fen h = h

enrolled_standing : (o : Option Class) (q : Price) (a : Account) → standing_of (enrolled_as o q a) ≡ standing_of a
enrolled_standing None q a = refl
enrolled_standing (Some k) q a = refl

entered_standing : (f : Ledger) (n p : ℕ) (o : Option Rank) (e : Energy) (q : Price) → Same standing_of f.accounts (entered f n p o e q).accounts
entered_standing f n p None e q i = refl
entered_standing f n p (Some r) e q i = refl

transferred_standing : (f : Ledger) (n p : ℕ) (e : Energy) (q : Price) (o : Option Row) → Same standing_of f.accounts (transferred f n p e q o).accounts
transferred_standing f n p e q None i = refl
transferred_standing f n p e q (Some c) i = same_fee standing_of (λ _ _. refl) p c.plant (fee_for e q c) f.accounts i

-- An issue pays whole fen of net and carry, and adds the net.
regrouped : (paid carry net copied nets fen rest : ℤ) → fen +ℤ rest ≡ net +ℤ carry → paid +ℤ carry ≡ nets → copied ≡ net → (paid +ℤ fen) +ℤ rest ≡ copied +ℤ nets
regrouped paid carry net copied nets fen rest e f g = omega (arith, ints)

issue_agrees : (d : Dues) (a : Account) (net copied : ℤ) → copied ≡ net → Agrees d (standing_of a)
    → Agrees record { paid = d.paid +ℤ ((split (net +ℤ a.carry.count)).fen.count *ℤ pos 1000000); nets = copied ∷ d.nets } (standing_of (issued_at net a))
issue_agrees d a net copied e g =
    let z = split (net +ℤ a.carry.count) in
    record {
      paid_up = regrouped d.paid a.carry.count net copied (sum_of d.nets) (z.fen.count *ℤ pos 1000000) z.carry.count (split_paid net a.carry.count).whole g.paid_up e;
      latest = λ c. e;
    }

-- A close moves what the net has changed by since the issue into the carry.
close_adds : (o : Option Grains) (ns : List ℤ) (paid carry net copied : ℤ) → is_some o ≡ true → Latest o ns → paid +ℤ carry ≡ sum_of ns → copied ≡ net
    → paid +ℤ (carry +ℤ (net -ℤ elim o [ None ↦ pos 0 | Some g ↦ g.count ])) ≡ sum_of (latest_replaced ns copied)
close_adds None ns paid carry net copied i l e f = absurd (false≢true i)
close_adds (Some g) [] paid carry net copied i l e f = absurd l
close_adds (Some g) (n ∷ ns) paid carry net copied i l e f = omega (arith, ints)

close_agrees : (d : Dues) (a : Account) (net copied : ℤ) → copied ≡ net → is_some a.issued ≡ true → a.closed ≡ false → Agrees d (standing_of a)
    → Agrees record { paid = d.paid; nets = latest_replaced d.nets copied } (standing_of (closed_at net a))
close_agrees d a net copied e i o g = record {
  paid_up = close_adds a.issued d.nets d.paid a.carry.count net copied i (g.latest o) g.paid_up e;
  latest = λ c. absurd (true≢false c);
}

turn_agrees : (d : Dues) (a : Account) → Agrees d (standing_of a) → Agrees d (standing_of (turned a))
turn_agrees d a g = record { paid_up = g.paid_up; latest = λ c. tt }

module _ (t : Tally) (b : Ledger) (s : Stands t b) where
  same_net : (p : ℕ) → net_of_plant t.copy p ≡ net_of_plant b p
  same_net p = ap (λ g. net_of_plant g p) s.copy ∙ net_without b p

  -- No dues changed, and no account in what its dues rest on.
  none_moved : (xs : List Account) → Same standing_of b.accounts xs → (p : ℕ) → 1 ≤ p → p ≤ 24 → Agrees (dues_of t p) (standing_of (account_of p xs))
  none_moved xs same p low high = subst (Agrees (dues_of t p)) (sym (same (p - 1))) (s.agree p low high)

  -- The dues and the account of one plant changed.
  one_moved : (p : ℕ) (d : Dues) (g : Account → Account) → 1 ≤ p → p ≤ 24 → Agrees d (standing_of (g (at b p)))
      → (q : ℕ) → 1 ≤ q → q ≤ 24 → Agrees (get_or (set t.dues (p - 1) d) (q - 1) nothing_due) (standing_of (account_of q (with_account p g b.accounts)))
  one_moved p d g low high k q qlow qhigh =
      ⊎_elim
      (λ e. subst (λ n. Agrees (get_or (set t.dues (p - 1) d) (n - 1) nothing_due) (standing_of (account_of n (with_account p g b.accounts)))) (sym e)
      (subst (λ x. Agrees x (standing_of (account_of p (with_account p g b.accounts)))) (sym (get_or-set_same t.dues (p - 1) d nothing_due (omega (arith, s.many))))
      (subst (λ a. Agrees d (standing_of a)) (sym (account_same p g b.accounts (omega (arith, s.sound.full)))) k)))
      (λ e. subst (λ x. Agrees x (standing_of (account_of q (with_account p g b.accounts)))) (sym (get_or-set_other t.dues (p - 1) (q - 1) d nothing_due (λ h. e (omega arith))))
      (subst (λ a. Agrees (dues_of t q) (standing_of a)) (sym (account_other q p g b.accounts qlow low e)) (s.agree q qlow qhigh)))
      (cases_eq q p)

  agree_after : (c : Call) → declined b c ≡ None → (q : ℕ) → 1 ≤ q → q ≤ 24 → Agrees (get_or (dues_after t c (fen_of (said b c))) (q - 1) nothing_due) (standing_of (at (accepted b c) q))
  agree_after (Enrol p k q) h =
      none_moved _ (same_with standing_of p (enrolled_as (class_of k) q) b.accounts (enrolled_standing (class_of k) q (at b p)))
  agree_after (Enter n p k e q) h = none_moved _ (entered_standing b n p (rank_of k) e q)
  agree_after (Amend n e) h = s.agree
  agree_after (Transfer n o p e q) h = none_moved _ (transferred_standing b n p e q (row_of o b.rows))
  agree_after (Meter p m c) h = none_moved _ (same_with standing_of p (with_reading record { metered = m; commissioning = c }) b.accounts refl)
  agree_after (Compensate p a) h =
      let w = and_parts (plant_ok p) (compensation a.count) (not-false _ (passed (conditions b (Compensate p a)) h).0) in
      none_moved _ (same_compensated b.shares p (nat_abs a.count) b.accounts (omega (arith, (plant_parts p w.0).1, s.sound.full)) standing_of (λ _ _. refl))
  agree_after (Issue p) h =
      let w = plant_parts p (not-false _ (passed (conditions b (Issue p)) h).0) in
      one_moved p _ (issued_at (net_of_plant b p)) w.0 w.1 (issue_agrees (dues_of t p) (at b p) (net_of_plant b p) (net_of_plant t.copy p) (same_net p) (s.agree p w.0 w.1))
  agree_after (Close p) h =
      let k = passed (conditions b (Close p)) h in
      let w = plant_parts p (not-false _ k.0) in
      one_moved p _ (closed_at (net_of_plant b p)) w.0 w.1 (close_agrees (dues_of t p) (at b p) (net_of_plant b p) (net_of_plant t.copy p) (same_net p) (not-false _ k.1.1.1.0) k.1.1.0 (s.agree p w.0 w.1))
  agree_after (Turn r) h = λ q low high.
      subst (λ a. Agrees (dues_of t q) (standing_of a)) (sym (get_or-map turned b.accounts (q - 1) blank blank (omega (arith, s.sound.full)))) (turn_agrees (dues_of t q) (at b q) (s.agree q low high))

  -- ---- one call

  accepted_stands : (c : Call) → declined b c ≡ None → Stands (fed_accepted t c (fen_of (said b c))) (accepted b c)
  accepted_stands c h = record {
    copy = ap (λ g. without_carries (accepted g c)) s.copy ∙ accepted_without b c;
    sound = accepted_sound b c s.lawful s.sound h;
    lawful = subst Lawful (sym (same_shares b c)) s.lawful;
    energies = energies_after t b s c h;
    many = many_after t c (fen_of (said b c)) s.many;
    agree = agree_after c h;
  }

  step_by : (o : Option Refusal) (c : Call) → declined b c ≡ o → Stands (fed t c (answer_by o (said b c))) (placed o (accepted b c) b)
  step_by (Some why) c h = s
  step_by None c h = subst (λ x. Stands x (accepted b c)) (sym (fed_said t b c)) (accepted_stands c h)

  pub step : (c : Call) → Stands (fed t c (answer b c)) (after b c)
  step c = step_by (declined b c) c refl

pub makes_stands : (t : Tally) (b g : Ledger) (c : Call) (a : Answer) → Makes b c g a → Stands t b → Stands (fed t c a) g
makes_stands t b g c a m s = rw (m.left, m.said) (step t b s c)

-- ---- all calls

pub run_stands : {b g : Ledger} {cs : List Call} {told : List Answer} (t : Tally) → Run b cs told g → Stands t b → Stands (fed_all t cs told) g
run_stands t none s = s
run_stands t (then {b} {c = c} m r) s = run_stands _ r (makes_stands t b _ c _ m s)

pub run_law : RunLaw
run_law shares lawful m q h cs told b r = keeps (fed_all (tally_opened m q shares) cs told) b (run_stands (tally_opened m q shares) r (opened_stands m q shares lawful h))
