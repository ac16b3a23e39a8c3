-- The plants of a book, issued one after another. Assumes nothing.
use Rattle.std.proofs.Common.{◌≡◌, ℕ, suc, ◌+◌, ◌-◌, ◌<◌, ◌≤◌, List, [], ◌++◌, Some, None, Option, sym, ap, ◌∙◌, arith}
use Rattle.std.proofs.lemmas.List.{append_assoc, append-nil}
use Rattle.book.specs.declared.account.Reading.{Reading}
use Rattle.book.specs.declared.call.Call.TheVariants.{Issue}
use Rattle.book.specs.Calls.{accepted, reading_of}
use Rattle.book.specs.Ledgers.{Ledger}
use Rattle.statement.specs.Lines.{plant_text}
use Rattle.statement.specs.Statements.{all_lines, issued_by, line_of, lines_from, text_by}

pub lines_begun : (f : Ledger) (text : List ℕ) → text ≡ [] → text ++ lines_from 24 1 f ≡ all_lines f
unfolding all_lines
lines_begun f text e = ap (λ l. l ++ lines_from 24 1 f) e

lines_more : (f : Ledger) (p : ℕ) (o : Option Reading) → p < 25 → reading_of f p ≡ o → lines_from (25 - p) p f ≡ text_by f p o ++ lines_from (25 - (p + 1)) (p + 1) (issued_by f p o)
lines_more f p o h e =
    let fewer : 25 - p ≡ suc (25 - (p + 1)) = omega arith in
    ap (λ n. lines_from n p f) fewer ∙ ap (λ w. text_by f p w ++ lines_from (25 - (p + 1)) (p + 1) (issued_by f p w)) e

-- A plant that is not metered.
pub lines_none : (f : Ledger) (p : ℕ) → p < 25 → reading_of f p ≡ None → lines_from (25 - p) p f ≡ lines_from (25 - (p + 1)) (p + 1) f
lines_none f p h e = lines_more f p None h e

-- A plant that is metered, with its line.
pub lines_some : (f g : Ledger) (p : ℕ) (r : Reading) (text line after : List ℕ) → p < 25 → reading_of f p ≡ Some r → line ≡ plant_text (line_of f p r) → after ≡ text ++ line → g ≡ accepted f (Issue p) → after ++ lines_from (25 - (p + 1)) (p + 1) g ≡ text ++ lines_from (25 - p) p f
lines_some f g p r text line after h e el ea eg =
    let more = lines_from (25 - (p + 1)) (p + 1) (accepted f (Issue p)) in
    ap (λ l. l ++ lines_from (25 - (p + 1)) (p + 1) g) ea
    ∙ ap (λ b. (text ++ line) ++ lines_from (25 - (p + 1)) (p + 1) b) eg
    ∙ append_assoc text line more
    ∙ ap (λ l. text ++ (l ++ more)) el
    ∙ ap (λ l. text ++ l) (sym (lines_more f p (Some r) h e))

pub lines_all : (f : Ledger) (p : ℕ) (text : List ℕ) → 25 ≤ p → text ++ lines_from (25 - p) p f ≡ text
lines_all f p text h = let none : 25 - p ≡ 0 = omega arith in ap (λ n. text ++ lines_from n p f) none ∙ append-nil text
