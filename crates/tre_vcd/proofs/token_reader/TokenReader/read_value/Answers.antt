use Rattle.std.proofs.Common.{refl, sym, ap, subst, ◌∙◌, rules}
use Rattle.tre_parts.specs.Walk.{TellsPart}
use Rattle.tre_vcd.specs.VcdReading.{nothing, number, keyword_says}
use Rattle.tre_vcd.specs.Sections.{Holds, asked_of_reader, terms_kept}
use Rattle.tre_vcd.proofs.FirstBytes.{letter-says, nothing-said}
use Rattle.tre_vcd.specs.declared.inside.Inside.TheVariants.{Number as OpenNumber}
use Rattle.tre_vcd.specs.declared.token.Letter.TheVariants.{Keyword, Number}
use Rattle.tre_vcd.proofs.Staying.{knows-kept}
use Rattle.tre_vcd.proofs.token_reader.TokenReader.read_value.Goals as goal

pub returns-in-Number-clause-tells : goal.returns-in-Number-clause-tells
returns-in-Number-clause-tells c past holds defined =
    record {
      state = record { past = past; inside = number };
      says =
          letter-says (terms_kept c.args.self.now) past c.args.token.now c.in-Some.first.now
          c.in-Some.rest.now Number c.in-Some.ensures.cases.0
          (sym c.letter_of.ensures ∙ c.in-Number.is);
      is_held = record {
        knows = knows-kept c.args.self.now OpenNumber c.args.self.now.tokens
            c.args.self.now.letters past holds.knows;
        inside = refl;
        tokens = holds.tokens;
        suits = defined;
        letters = tt;
      };
    }

pub returns-in-Scalar-clause-tells : goal.returns-in-Scalar-clause-tells
returns-in-Scalar-clause-tells c =
    search (rules, c.args.self.now, c.args.token.now, c.in-Some.rest.now, c.in-Some.ensures.cases.0)

pub returns-in-Time-clause-tells : goal.returns-in-Time-clause-tells
returns-in-Time-clause-tells c =
    search (rules, c.args.self.now, c.args.token.now, c.in-Some.rest.now, c.in-Some.ensures.cases.0)

pub returns-in-Vector-clause-tells : goal.returns-in-Vector-clause-tells
returns-in-Vector-clause-tells c =
    search (rules, c.args.self.now, c.args.token.now, c.in-Some.rest.now, c.in-Some.ensures.cases.0)

pub returns-in-Keyword-clause-tells : goal.returns-in-Keyword-clause-tells
returns-in-Keyword-clause-tells c = λ past holds defined.
    let reader = c.args.self.now in
    subst (λ said. TellsPart (asked_of_reader reader) said (Holds c.read_keyword.new.self)
    c.read_keyword.result)
    (sym (letter-says (terms_kept reader) past c.args.token.now c.in-Some.first.now
    c.in-Some.rest.now Keyword c.in-Some.ensures.cases.0 (sym c.letter_of.ensures ∙ c.in-Keyword.is)
    ∙ ap (keyword_says past) (sym c.in-Some.ensures.cases.0)))
    (c.read_keyword.ensures.tells past holds defined)

pub returns-in_default-clause-tells : goal.returns-in_default-clause-tells
returns-in_default-clause-tells c = search (rules, nothing, nothing-said, terms_kept)

pub returns-in-Other-clause-tells : goal.returns-in-Other-clause-tells
returns-in-Other-clause-tells c =
    search (rules, letter-says, terms_kept, c.in-Some.first.now, c.in-Some.rest.now)
