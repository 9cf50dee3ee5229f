use Rattle.std.proofs.Common.{[], ◌∙◌, refl, ap, ap₂, map, subst, sym}
use Rattle.tre_vcd.specs.Kept.{vocabulary_of}
use Rattle.tre_vcd.specs.Offers.{KnowsOffers}
use Rattle.tre_vcd.proofs.Longest.{both-below}
use Rattle.tre_vcd.proofs.Needing.{same-terms, terms_of, within-both, within-more}
use Rattle.tre_vcd.proofs.token_reader.TokenReader.new.Goals as goal

pub returns-clause-begins : goal.returns-clause-begins
returns-clause-begins c =
    let own = both-below c.longest_of.result c.longest_of-2.result c.max-own.result
    c.max-own.ensures in
    let both = both-below c.max-own.result c.longest.result c.max-longest.result
    c.max-longest.ensures in
    record {
      knows = record {
        past = c.new-4.ensures c.args.names c.args.events;
        needed = c.in_ok-found.ensures.knows;
        signals = c.in_ok-signals.ensures.knows;
        offers = subst (λ all. KnowsOffers all [] c.in_ok-found.found)
            (sym (c.in_ok-signals.ensures.kept ∙ c.definitions.ensures)) c.in_ok-found.ensures.offers;
        within = within-more c.max-own.result c.max-longest.result _ both.0
            (within-both c.args.names c.args.events c.longest_of.result c.longest_of-2.result
            c.max-own.result own.0 own.1 c.longest_of.ensures c.longest_of-2.ensures);
        needed_within = within-more c.longest.result c.max-longest.result _ both.1 c.longest.ensures;
      };
      inside = refl;
      tokens = ap (map _) c.new-5.ensures.items;
      suits = tt;
      letters = tt;
    }

pub returns-clause-terms : goal.returns-clause-terms
returns-clause-terms c =
    ap₂ (λ scale unit. terms_of scale unit (vocabulary_of c.in_ok-found.found)
    c.in_ok-signals.signals.definitions.items) c.new-3.ensures.exponent c.new-3.ensures.unit
    ∙ same-terms c.args.scale c.args.unit c.in_ok-found.ensures.needs
    (c.in_ok-signals.ensures.kept ∙ c.definitions.ensures ∙ c.in_ok-found.ensures.definitions)
