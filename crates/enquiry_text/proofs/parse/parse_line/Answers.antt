-- By its words, which are those that the split gives, a line is an enquiry or none.
use mathlib.Core.Path.{◌≡◌, ap, ◌∙◌}
use mathlib.Core.List.{[], ◌∷◌}
use Rattle.std.proofs.Common.{rules, tests}
use Rattle.enquiry_text.specs.Line.{words_from}
use Rattle.enquiry_text.specs.Meaning.{line_meaning}
use Rattle.enquiry_text.proofs.Words.{left, begins, ended, taken, line-words, first-none, second-none, third-none, fourth, all-three}
use Rattle.enquiry_text.proofs.parse.parse_line.Goals as goal
use Rattle.enquiry_text.proofs.parse.parse_line.Goals.{After-number, After-number-2, After-number-3}

-- ---- the words so far
one : (c : After-number) → words_from [] c.args.text.now ≡ c.in_ok-next.field-0.now ∷ left c.next.new.self
one c =
    let s = c.split-words in
    begins s.result s.ensures.rest s.ensures.done ∙ taken s.result c.next.new.self c.in_ok-next.ensures.steps (λ a r q k. search (rules, tests))

two : (c : After-number-2) → words_from [] c.args.text.now ≡ c.in_ok-next.field-0.now ∷ c.in_ok-next-2.field-0.now ∷ left c.next-2.new.self
two c =
    let s = c.split-words in
    let a = c.in_ok-next.field-0.now in
    begins s.result s.ensures.rest s.ensures.done ∙ taken s.result c.next.new.self c.in_ok-next.ensures.steps (λ a r q k. search (rules, tests))
    ∙ ap (λ ws. a ∷ ws) (taken c.next.new.self c.next-2.new.self c.in_ok-next-2.ensures.steps (λ a r q k. search (rules, tests)))

three : (c : After-number-3) →
    words_from [] c.args.text.now ≡ c.in_ok-next.field-0.now ∷ c.in_ok-next-2.field-0.now ∷ c.in_ok-next-3.field-0.now ∷ left c.next-3.new.self
three c =
    let s = c.split-words in
    let a = c.in_ok-next.field-0.now in
    let d = c.in_ok-next-2.field-0.now in
    begins s.result s.ensures.rest s.ensures.done ∙ taken s.result c.next.new.self c.in_ok-next.ensures.steps (λ a r q k. search (rules, tests))
    ∙ ap (λ ws. a ∷ ws) (taken c.next.new.self c.next-2.new.self c.in_ok-next-2.ensures.steps (λ a r q k. search (rules, tests)))
    ∙ ap (λ ws. a ∷ d ∷ ws) (taken c.next-2.new.self c.next-3.new.self c.in_ok-next-3.ensures.steps (λ a r q k. search (rules, tests)))

-- ---- the ways through the code
pub returns-in_err-age : goal.returns-in_err-age
returns-in_err-age c = λ number.
    ap (line_meaning number) c.from_residual-in_err-age.ensures ∙ first-none number _ (one (goal.at.returns-in_err-age c).After-number) c.in_err-age.ensures

pub returns-in_err-next-2 : goal.returns-in_err-next-2
returns-in_err-next-2 c = λ number.
    let words = one (goal.at.returns-in_err-next-2 c).After-number in
    let none = ap (λ ws. c.in_ok-next.field-0.now ∷ ws) (ended c.next.new.self c.in_err-next-2.ensures.steps.0) in
    ap (line_meaning number) c.from_residual-in_err-next-2.ensures ∙ line-words number _ (words ∙ none)

pub returns-in_err-deferment : goal.returns-in_err-deferment
returns-in_err-deferment c = λ number.
    let words = two (goal.at.returns-in_err-deferment c).After-number-2 in
    ap (line_meaning number) c.from_residual-in_err-deferment.ensures ∙ second-none number _ words c.in_ok-age.ensures c.in_err-deferment.ensures

pub returns-in_err-next-3 : goal.returns-in_err-next-3
returns-in_err-next-3 c = λ number.
    let words = two (goal.at.returns-in_err-next-3 c).After-number-2 in
    let none = ap (λ ws. c.in_ok-next.field-0.now ∷ c.in_ok-next-2.field-0.now ∷ ws) (ended c.next-2.new.self c.in_err-next-3.ensures.steps.0) in
    ap (line_meaning number) c.from_residual-in_err-next-3.ensures ∙ line-words number _ (words ∙ none)

pub returns-in_err-year : goal.returns-in_err-year
returns-in_err-year c = λ number.
    let words = three (goal.at.returns-in_err-year c).After-number-3 in
    ap (line_meaning number) c.from_residual-in_err-year.ensures
    ∙ third-none number _ words c.in_ok-age.ensures c.in_ok-deferment.ensures c.in_err-year.ensures

pub returns-in-Some : goal.returns-in-Some
returns-in-Some c = λ number.
    let words = three (goal.at.returns-in-Some c).After-number-3 in
    let more = taken c.next-3.new.self c.next-4.new.self c.in-Some.ensures.steps (λ a r q k. search (rules, tests)) in
    fourth number _ (words ∙ ap (λ ws. c.in_ok-next.field-0.now ∷ c.in_ok-next-2.field-0.now ∷ c.in_ok-next-3.field-0.now ∷ ws) more)

pub returns-in-None : goal.returns-in-None
returns-in-None c = λ number.
    let words = three (goal.at.returns-in-None c).After-number-3 in
    let none = ended c.next-3.new.self c.in-None.ensures.steps.0 in
    all-three number _ (words ∙ ap (λ ws. c.in_ok-next.field-0.now ∷ c.in_ok-next-2.field-0.now ∷ c.in_ok-next-3.field-0.now ∷ ws) none)
    c.in_ok-age.ensures c.in_ok-deferment.ensures c.in_ok-year.ensures
