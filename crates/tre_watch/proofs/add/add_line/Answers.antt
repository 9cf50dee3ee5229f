use Rattle.tre_watch.specs.Steps.{known_in, spelt_checks, texts_of}
use Rattle.tre_watch.proofs.Lines.{leads_silence, let_adds, says_check, stops_mistake}
use Rattle.tre_watch.proofs.add.add_line.Goals as goal

pub returns-in-Silent : goal.returns-in-Silent
returns-in-Silent c =
    leads_silence c.args.verdicts c.args.scale c.args.number c.args.line.now
    (spelt_checks c.args.checks.now) c.in-Silent.ensures

pub returns-in-Bad : goal.returns-in-Bad
returns-in-Bad c =
    stops_mistake c.args.verdicts c.args.scale c.args.number c.args.line.now
    (spelt_checks c.args.checks.now) c.in-Bad.ensures

pub returns-in-Check : goal.returns-in-Check
returns-in-Check c = c.add_check.ensures c.args.line.now c.in-Check.ensures

pub add_check-requires-clause-is_name : goal.add_check-requires-clause-is_name
add_check-requires-clause-is_name c =
    (says_check c.args.line.now c.in-Check.check.form c.in-Check.check.name.now
    (texts_of c.in-Check.check) c.in-Check.ensures).named.is_name

pub returns-in-Let : goal.returns-in-Let
returns-in-Let c =
    let_adds c.args.verdicts c.args.scale c.args.number c.args.line.now
    (spelt_checks c.args.checks.now) c.in-Let.text.now (known_in c.add_let.new.meanings)
    c.in-Let.ensures c.add_let.result c.add_let.ensures
