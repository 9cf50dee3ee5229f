use Rattle.std.proofs.Common.{drop, refl, sym, ◌∙◌, subst, rules}
use Rattle.tre_vcd.specs.Sections.{Holds, asked_of_reader, terms_kept}
use Rattle.tre_vcd.specs.Taken.{IsTaken}
use Rattle.tre_vcd.specs.declared.token.Letter.TheVariants.{Time, Scalar}
use Rattle.tre_vcd.specs.VcdReading.{nothing}
use Rattle.tre_vcd.proofs.FirstBytes.{letter-says, nothing-said}
use Rattle.tre_vcd.proofs.Skimming.{vector-taken}
use Rattle.tre_vcd.proofs.token_reader.TokenReader.skim_token.Goals as goal

pub returns-in-Scalar-clause-taken : goal.returns-in-Scalar-clause-taken
returns-in-Scalar-clause-taken c = λ past holds defined.
    let token = c.args.token.now in
    let segments = c.args.segments.now.items in
    subst (λ said. IsTaken (asked_of_reader c.args.self.now) said (Holds c.skim_scalar.new.self) past
    (drop 1 token) segments segments c.skim_scalar.result)
    (sym (letter-says (terms_kept c.args.self.now) past token c.in-Some.first.now
    c.in-Some.rest.now Scalar c.in-Some.ensures.cases.0
    (sym c.frequent_letter_of.ensures ∙ c.in-Scalar.is)))
    (c.skim_scalar.ensures.taken past (drop 1 token) segments holds defined)

pub returns-in-Time-clause-taken : goal.returns-in-Time-clause-taken
returns-in-Time-clause-taken c = λ past holds defined.
    let token = c.args.token.now in
    subst (λ said. IsTaken (asked_of_reader c.args.self.now) said (Holds c.skim_time.new.self) past
    (drop 1 token) c.args.segments.now.items c.skim_time.new.segments.items c.skim_time.result)
    (sym (letter-says (terms_kept c.args.self.now) past token c.in-Some.first.now
    c.in-Some.rest.now Time c.in-Some.ensures.cases.0
    (sym c.frequent_letter_of.ensures ∙ c.in-Time.is)))
    (c.skim_time.ensures.taken past (drop 1 token) holds defined)

pub returns-in_default-clause-taken : goal.returns-in_default-clause-taken
returns-in_default-clause-taken c = search (rules, nothing, nothing-said, terms_kept)

pub returns-in-Vector-clause-taken : goal.returns-in-Vector-clause-taken
returns-in-Vector-clause-taken c =
    search (rules, asked_of_reader, vector-taken, letter-says, c.args.self.now, c.args.token.now)

pub returns-in_default-frequent_letter_of-clause-taken :
    goal.returns-in_default-frequent_letter_of-clause-taken
returns-in_default-frequent_letter_of-clause-taken c = λ past holds defined. (holds, refl)
