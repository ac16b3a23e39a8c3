use Rattle.std.proofs.Common.{◌≡◌, ◌+◌, ◌-◌, ◌*◌, ◌<◌, length, take, drop, Ok, Err, rules, sym, ap, ◌∙◌, subst, le_of_lt, arith}
use Rattle.sheet.specs.declared.fault.Problem.TheVariants.{CutShort}
use Rattle.sheet.specs.Faults.{sheet_fault}
use Rattle.sheet.specs.Formats.{ReadsSection, StartsWith, Whole, head_size, section_at, size_in, term_size}
use Rattle.sheet.proofs.Sections.{Faults, cut, cut_out_lem, from_on, past_end, size_is, stopped, whole}
use Rattle.sheet.proofs.section.read_section.Goals as goal

pub returns-in_err-rest : goal.returns-in_err-rest
returns-in_err-rest c =
    let offset = c.args.offset in
    let bytes = c.args.sheet.now in
    let past : length bytes < offset = search rules in
    let fault : c.from_residual.result ≡ Err (sheet_fault offset CutShort) = search rules in
    subst (ReadsSection bytes offset) (sym fault) (past_end offset bytes (le_of_lt past))

pub returns-in_err-kind : goal.returns-in_err-kind
returns-in_err-kind c =
    let offset = c.args.offset in
    let bytes = c.args.sheet.now in
    let rest = c.in_ok-rest.rest.now in
    let e = c.in_err-kind.field-0.0 in
    let part : rest ≡ take (length bytes - offset) (drop offset bytes) = search rules in
    let told : Faults c.read_start.result offset e = search rules in
    let fault : c.from_residual-in_err-kind.result ≡ Err e = search rules in
    let read = stopped c.read_start.result offset rest e c.read_start.ensures told in
    subst (ReadsSection bytes offset) (sym fault) (ap (section_at offset) (sym (part ∙ from_on offset bytes)) ∙ read)

pub returns : goal.returns
returns c =
    let offset = c.args.offset in
    let rest = c.in_ok-rest.rest.now in
    let bytes = c.args.sheet.now in
    let part : rest ≡ take (length bytes - offset) (drop offset bytes) = search rules in
    let back : rest ≡ drop offset bytes = part ∙ from_on offset bytes in
    let heads = c.split_at.result.0.now in
    let after = c.split_at.result.1.now in
    let terms = c.split_at-2.result.0.now in
    let k = c.in_ok-kind.kind in
    let n = c.in_ok-kind.count in
    let starts : StartsWith rest (Ok (k, n)) = search rules in
    let hs = c.head_size.ensures in
    let ts = c.term_size.ensures in
    let read = cut offset rest k starts.0 starts.1 ∙ ap Ok (cut_out_lem offset rest heads after terms k n c.head_size.result c.term_size.result starts.2 hs ts (c.split_at.ensures.front ∙ ap (take (n * c.head_size.result)) (from_on 3 rest)) (c.split_at.ensures.back ∙ ap (drop (n * c.head_size.result)) (from_on 3 rest)) c.split_at-2.ensures.front ∙ sym c.new.ensures) in
    let long : length heads ≡ n * head_size k = c.split_at.ensures.front_len ∙ ap (λ m. n * m) hs in
    let wide : length terms ≡ n * term_size k = c.split_at-2.ensures.front_len ∙ ap (λ m. n * m) ts in
    let size : size_in rest ≡ 3 + n * head_size k + n * term_size k = size_is rest k starts.1 ∙ ap (λ m. 3 + m * head_size k + m * term_size k) (sym starts.2) in
    let end : offset + 3 + length heads + length terms ≡ offset + size_in rest = omega (arith, long, wide, size) in
    (ap (section_at offset) (sym back) ∙ read, end ∙ ap (λ l. offset + size_in l) back, subst Whole (sym c.new.ensures) (whole offset heads terms k n long wide))
