use Rattle.tre_answer.proofs.verdicts.put_verdict.Goals as goal

pub write_title-begin-requires-clause-word : goal.write_title-begin-requires-clause-word
write_title-begin-requires-clause-word g c = (c.in-Some.ensures c.args.name.now).1
