-- Contracts of one rank: their claims, and their parts laid out over them. Assumes nothing.
use Rattle.std.proofs.Common.{◌≡◌, ℕ, zero, suc, ◌+◌, ◌-◌, ◌*◌, ◌<◌, ◌≤◌, true, false, cond, List, [], ◌∷◌, ◌++◌, length, get_or, take, drop, set, sum, sym, refl, ap, ◌∙◌, ⊎_elim, add-zero, arith}
use Rattle.std.proofs.lemmas.List.{at_drop_more, drop_all, drop_more, drop_all, drop-drop, drop-set-lt, get_or-drop, take_more, append_assoc}
use Rattle.std.specs.List.{sum_by}
use Rattle.std.proofs.lemmas.List.Sums.{sum_by-cons}
use Rattle.std.proofs.lemmas.Bool.{cases_Bool, cond-true, cond-false}
use Rattle.units.specs.declared.energy.Energy.{Energy}
use Rattle.market.specs.declared.figures.Contract.{Contract}
use Rattle.market.specs.declared.kinds.Rank.{Rank}
use Rattle.market.specs.declared.kinds.Rank.TheVariants.{InterProvincePriority, InterProvinceMarket, Retained, Aluminium, InProvincePriority, InProvinceMarket}
use Rattle.market.specs.Dealing.{laid, laid_ranks, Covered}
use Rattle.market.specs.Dividing.{energy, kwhs}
use Rattle.market.specs.Figures.{of_rank, claims_of, contracted, rank_claims}
use Rattle.market.specs.Kinds.{rank_number}
use Rattle.market.proofs.Admitted.{blank}
use Rattle.market.proofs.Filling.{sum_cons, places_more, places_all}

-- a contract of the rank, and one of another, at the place i
pub claims_hit : (n : ℕ) (cs : List Contract) (i : ℕ) → i < length cs → of_rank n (get_or cs i blank) ≡ true → claims_of n (drop i cs) ≡ (get_or cs i blank).energy.kwh ∷ claims_of n (drop (i + 1) cs)
claims_hit n cs i h e = at_drop_more (claims_of n) cs i blank h ∙ cond-true _ _ _ e

pub claims_miss : (n : ℕ) (cs : List Contract) (i : ℕ) → i < length cs → of_rank n (get_or cs i blank) ≡ false → claims_of n (drop i cs) ≡ claims_of n (drop (i + 1) cs)
claims_miss n cs i h e = at_drop_more (claims_of n) cs i blank h ∙ cond-false _ _ _ e

-- a rank's claims, added up over all contracts
pub claims_added : (n : ℕ) (cs : List Contract) → sum_by (λ (c : Contract). cond (of_rank n c) c.energy.kwh 0) cs ≡ sum (claims_of n cs)
claims_added n [] = refl
claims_added n (c ∷ cs) =
    let claim : Contract → ℕ = λ x. cond (of_rank n x) x.energy.kwh 0 in
    ⊎_elim
    (λ yes. omega (arith, sum_by-cons claim c cs, cond-true (of_rank n c) c.energy.kwh 0 yes, claims_added n cs, sum_cons c.energy.kwh (claims_of n cs), ap sum (cond-true (of_rank n c) (c.energy.kwh ∷ claims_of n cs) (claims_of n cs) yes)))
    (λ other. omega (arith, sum_by-cons claim c cs, cond-false (of_rank n c) c.energy.kwh 0 other, claims_added n cs, ap sum (cond-false (of_rank n c) (c.energy.kwh ∷ claims_of n cs) (claims_of n cs) other)))
    (cases_Bool (of_rank n c))

-- a rank has no more contracts and no more energy than all
pub claims_few : (n : ℕ) (cs : List Contract) → length (claims_of n cs) ≤ length cs
claims_few n [] = omega arith
claims_few n (c ∷ cs) =
    ⊎_elim
    (λ e. omega (arith, ap length (cond-true (of_rank n c) (c.energy.kwh ∷ claims_of n cs) (claims_of n cs) e), claims_few n cs))
    (λ e. omega (arith, ap length (cond-false (of_rank n c) (c.energy.kwh ∷ claims_of n cs) (claims_of n cs) e), claims_few n cs))
    (cases_Bool (of_rank n c))

pub claims_whole : (n : ℕ) (cs : List Contract) → sum (claims_of n cs) ≤ contracted cs
claims_whole n [] = omega arith
claims_whole n (c ∷ cs) =
    ⊎_elim
    (λ e. omega (arith, ap sum (cond-true (of_rank n c) (c.energy.kwh ∷ claims_of n cs) (claims_of n cs) e), sum_cons c.energy.kwh (claims_of n cs), claims_whole n cs))
    (λ e. omega (arith, ap sum (cond-false (of_rank n c) (c.energy.kwh ∷ claims_of n cs) (claims_of n cs) e), claims_whole n cs))
    (cases_Bool (of_rank n c))

-- the layout at the place i, with j parts laid out before it
laid_at : (n : ℕ) (cs : List Contract) (parts : List ℕ) (es : List Energy) (i : ℕ) → i < length cs → i < length es → laid n (drop i cs) parts (drop i es) ≡ cond (of_rank n (get_or cs i blank)) (energy (get_or parts 0 0) ∷ laid n (drop (i + 1) cs) (drop 1 parts) (drop (i + 1) es)) (get_or es i (energy 0) ∷ laid n (drop (i + 1) cs) parts (drop (i + 1) es))
laid_at n cs parts es i h k =
    ap (λ l. laid n l parts (drop i es)) (drop_more cs i blank h) ∙ ap (λ l. laid n (get_or cs i blank ∷ drop (i + 1) cs) parts l) (drop_more es i (energy 0) k)

same_at : (xs ys : List Energy) (i : ℕ) → drop i xs ≡ drop i ys → get_or xs i (energy 0) ≡ get_or ys i (energy 0)
same_at xs ys i e =
    let here : (l : List Energy) → get_or (drop i l) 0 (energy 0) ≡ get_or l i (energy 0) = λ l. get_or-drop i l 0 (energy 0) ∙ ap (λ k. get_or l k (energy 0)) (add-zero i) in
    sym (here xs) ∙ ap (λ l. get_or l 0 (energy 0)) e ∙ here ys

pub same_past : (xs ys : List Energy) (i : ℕ) → drop i xs ≡ drop i ys → drop (i + 1) xs ≡ drop (i + 1) ys
same_past xs ys i e = sym (drop-drop 1 i xs) ∙ ap (drop 1) e ∙ drop-drop 1 i ys

pub same_past_set : (xs ys : List Energy) (i : ℕ) (v : Energy) → drop i xs ≡ drop i ys → drop (i + 1) (set xs i v) ≡ drop (i + 1) ys
same_past_set xs ys i v e = drop-set-lt (i + 1) xs i v (omega arith) ∙ same_past xs ys i e

pub laid_hit : (n : ℕ) (cs : List Contract) (parts rest : List ℕ) (es out : List Energy) (i : ℕ) (v : Energy) → i < length cs → i < length es → i < length out → of_rank n (get_or cs i blank) ≡ true → v.kwh ≡ get_or parts 0 0 → rest ≡ drop 1 parts → take (i + 1) (set out i v) ++ laid n (drop (i + 1) cs) rest (drop (i + 1) es) ≡ take i out ++ laid n (drop i cs) parts (drop i es)
laid_hit n cs parts rest es out i v h k o e is left =
    places_more out i v (laid n (drop (i + 1) cs) rest (drop (i + 1) es)) o
    ∙ ap (λ x. take i out ++ (energy x ∷ laid n (drop (i + 1) cs) rest (drop (i + 1) es))) is
    ∙ ap (λ l. take i out ++ (energy (get_or parts 0 0) ∷ laid n (drop (i + 1) cs) l (drop (i + 1) es))) left
    ∙ ap (λ l. take i out ++ l) (sym (laid_at n cs parts es i h k ∙ cond-true _ _ _ e))

-- a place that stays as it was
kept_at : (es out : List Energy) (i : ℕ) (rest : List Energy) → i < length out → drop i out ≡ drop i es → take (i + 1) out ++ rest ≡ take i out ++ (get_or es i (energy 0) ∷ rest)
kept_at es out i rest o same =
    ap (λ l. l ++ rest) (take_more out i (energy 0) o)
    ∙ append_assoc (take i out) (get_or out i (energy 0) ∷ []) rest
    ∙ ap (λ x. take i out ++ (x ∷ rest)) (same_at out es i same)

pub laid_miss : (n : ℕ) (cs : List Contract) (parts : List ℕ) (es out : List Energy) (i : ℕ) → i < length cs → i < length es → i < length out → of_rank n (get_or cs i blank) ≡ false → drop i out ≡ drop i es → take (i + 1) out ++ laid n (drop (i + 1) cs) parts (drop (i + 1) es) ≡ take i out ++ laid n (drop i cs) parts (drop i es)
laid_miss n cs parts es out i h k o e same =
    kept_at es out i (laid n (drop (i + 1) cs) parts (drop (i + 1) es)) o same
    ∙ ap (λ l. take i out ++ l) (sym (laid_at n cs parts es i h k ∙ cond-false _ _ _ e))

pub laid_all_lem : (n : ℕ) (cs : List Contract) (parts : List ℕ) (es out : List Energy) (i : ℕ) → length cs ≤ i → length out ≤ i → take i out ++ laid n (drop i cs) parts (drop i es) ≡ out
laid_all_lem n cs parts es out i h k =
    ap (λ l. take i out ++ laid n l parts (drop i es)) (drop_all i cs h) ∙ places_all out i k

-- seven numbers, one by one
pub sum_seven : (a b c d e f g : ℕ) → sum (a ∷ b ∷ c ∷ d ∷ e ∷ f ∷ g ∷ []) ≡ a + b + c + d + e + f + g
sum_seven a b c d e f g = omega arith

pub rank_claims_sum : (commissioning : ℕ) (cs : List Contract) → sum (rank_claims commissioning cs) ≤ commissioning + 6 * contracted cs
rank_claims_sum m cs =
    omega (arith, sum_seven (sum (claims_of 1 cs)) (sum (claims_of 2 cs)) m (sum (claims_of 4 cs)) (sum (claims_of 5 cs)) (sum (claims_of 6 cs) - m) (sum (claims_of 7 cs)), claims_whole 1 cs, claims_whole 2 cs, claims_whole 4 cs, claims_whole 5 cs, claims_whole 6 cs, claims_whole 7 cs)

pub get_d_kwhs : (es : List Energy) (i : ℕ) → (get_or es i (energy 0)).kwh ≡ get_or (kwhs es) i 0
get_d_kwhs [] i = refl
get_d_kwhs (e ∷ es) zero = refl
get_d_kwhs (e ∷ es) (suc i) = get_d_kwhs es i

-- what a rank is given, read from the energies
pub given : (cs : List Contract) (parts : List Energy) → Covered cs (kwhs parts) → (r : Rank) → (rank_number r ≡ 3 → ⊥) → (get_or parts (rank_number r - 1) (energy 0)).kwh ≤ sum (claims_of (rank_number r) cs)
given cs parts h r apart = omega (arith, get_d_kwhs parts (rank_number r - 1), h r (λ e. apart (ap rank_number e)))

pub laid_as : (rule : List ℕ → ℕ → List ℕ) (cs : List Contract) (parts : List Energy) (n i : ℕ) (es fs : List Energy) → es ≡ fs → laid n cs (rule (claims_of n cs) (get_or parts i (energy 0)).kwh) es ≡ laid n cs (rule (claims_of n cs) (get_or (kwhs parts) i 0)) fs
laid_as rule cs parts n i es fs e =
    ap (λ t. laid n cs (rule (claims_of n cs) t) es) (get_d_kwhs parts i) ∙ ap (laid n cs (rule (claims_of n cs) (get_or (kwhs parts) i 0))) e

-- the ranks that contracts are of, one by one
abbrev pub contracted_ranks : List Rank
contracted_ranks =
    InterProvincePriority ∷ InterProvinceMarket ∷ Retained ∷ Aluminium ∷ InProvincePriority ∷ InProvinceMarket ∷ []

abbrev pub contracted_rank : ℕ → Rank
contracted_rank i = get_or contracted_ranks i InterProvincePriority

pub never_commissioning : (i : ℕ) → rank_number (contracted_rank i) ≡ 3 → ⊥
never_commissioning zero e = omega (arith, e)
never_commissioning (suc zero) e = omega (arith, e)
never_commissioning (suc (suc zero)) e = omega (arith, e)
never_commissioning (suc (suc (suc zero))) e = omega (arith, e)
never_commissioning (suc (suc (suc (suc zero)))) e = omega (arith, e)
never_commissioning (suc (suc (suc (suc (suc zero))))) e = omega (arith, e)
never_commissioning (suc (suc (suc (suc (suc (suc i)))))) e = omega (arith, e)

pub laid_next : (parts : ℕ → List ℕ) (cs : List Contract) (i : ℕ) (es : List Energy) → i < 6 → laid_ranks parts cs (drop i contracted_ranks) es ≡ laid_ranks parts cs (drop (i + 1) contracted_ranks) (laid (rank_number (contracted_rank i)) cs (parts (rank_number (contracted_rank i))) es)
laid_next parts cs i es h = ap (λ l. laid_ranks parts cs l es) (drop_more contracted_ranks i InterProvincePriority h)
