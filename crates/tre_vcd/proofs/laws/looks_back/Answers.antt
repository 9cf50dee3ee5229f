use Rattle.std.proofs.Common.{◌≡◌, Bool, true, false, Option, Some, None, ap}
use Rattle.std.specs.Option.{option_map_or}
use Rattle.tre_vcd.specs.VcdReading.{latest, letters_in, happened_in}
use Rattle.tre_vcd.proofs.Looking.{latest-is, latest-none}
use Rattle.tre_vcd.proofs.laws.looks_back.Goals as goal

pub returns-clause-letters : goal.returns-clause-letters
returns-clause-letters c = λ past identifier letters. latest-is (letters_in identifier) past letters

pub returns-clause-no_letters : goal.returns-clause-no_letters
returns-clause-no_letters c = λ past identifier silent. latest-none (letters_in identifier) past silent

said-true : (o : Option Bool) → option_map_or (λ happened. happened) o false ≡ true → o ≡ Some true
said-true None is = absurd (cc is)
said-true (Some own) is = ap Some is

pub returns-clause-happened : goal.returns-clause-happened
returns-clause-happened c = λ past identifier.
    let both = latest-is (happened_in identifier) past true in (
      λ last. ap (λ o. option_map_or (λ happened. happened) o false) (both.0 last),
      λ is. both.1 (said-true (latest (happened_in identifier) past) is),
    )
