use Rattle.std.proofs.Common.{sym, rules}
use Rattle.tre_text.proofs.Fields.{without_return-empty, without_return-last, without_return-none}
use Rattle.tre_text.proofs.field.without_return.Goals.{else-len-gt0-via-then-len-gt0+else-line-len-eq13, else-len-gt0-via-else-len-gt0}
use Rattle.tre_text.proofs.field.without_return.Goals as goal

pub returns-then-line-len-eq13 : goal.returns-then-line-len-eq13
returns-then-line-len-eq13 c = sym (without_return-last _ c.if-line-len-eq13.true)

pub returns : goal.returns
returns c =
    search (rules, without_return-none, else-len-gt0-via-else-len-gt0, without_return-empty)
