use Rattle.std.proofs.Common.{rules, map, string_bytes}
use Rattle.std.proofs.lemmas.Result.{IfOk-weaker}
use Rattle.tre_words.proofs.Jobs.{from_options, plain_from, plain_finds, plain_stands}
use Rattle.tre_words.proofs.ByClap.{by_clap}
use Rattle.tre_words.proofs.Taken.{words_utf8}
use Rattle.tre_words.proofs.words.read_options.Goals as goal

pub returns-clause-ok : goal.returns-clause-ok
returns-clause-ok c = IfOk-weaker c.plain_job.result _ _ (λ job is.
    plain_from (map string_bytes c.args.words.now) _ job (words_utf8 c.args.words.now)
    c.in_ok-matches.ensures.matches c.in_ok-matches.ensures.faultless is.0 is.1)
    c.plain_job.ensures.ok

pub returns-clause-is_job : goal.returns-clause-is_job
returns-clause-is_job c = IfOk-weaker c.plain_job.result _ _ (λ job is.
    from_options (map string_bytes c.args.words.now) job
    (plain_from (map string_bytes c.args.words.now) _ job (words_utf8 c.args.words.now)
    c.in_ok-matches.ensures.matches c.in_ok-matches.ensures.faultless is.0 is.1))
    c.plain_job.ensures.ok

pub returns-clause-usage : goal.returns-clause-usage
returns-clause-usage c = λ usage job gives. c.plain_job.ensures.usage usage job
    (plain_finds (map string_bytes c.args.words.now) _ job c.in_ok-matches.ensures.matches gives)
    (plain_stands (map string_bytes c.args.words.now) _ job c.in_ok-matches.ensures.matches gives)

pub returns-in_err-matches-clause-usage : goal.returns-in_err-matches-clause-usage
returns-in_err-matches-clause-usage c = λ usage job gives.
    c.in_err-matches.ensures.usage (search rules) (by_clap (map string_bytes c.args.words.now) job gives).faultless
