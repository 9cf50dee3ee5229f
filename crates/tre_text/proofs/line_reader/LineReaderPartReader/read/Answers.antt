use Rattle.std.proofs.Common.{◌≡◌, ◌+◌, refl, sym, ap, ◌∙◌, arith, [], rules}
use Rattle.tre_trace.specs.declared.fault.TraceKind.TheVariants.{Spent}
use Rattle.tre_text.specs.Lines.{bits_after}
use Rattle.tre_text.specs.TextReading.{past_at, stretch_with}
use Rattle.tre_text.proofs.Naming.{bits-none, bits-on, bits-said, segment-with}
use Rattle.tre_text.proofs.line_reader.LineReaderPartReader.read.Goals as goal

pub overflow_add-self : goal.overflow_add-self
overflow_add-self c =
    let found = c.in-Entry.ensures (past_at c.args.self.now.known.end []) refl in
    omega (arith, found.fits)

pub returns-in-Events-clause-tells : goal.returns-in-Events-clause-tells
returns-in-Events-clause-tells c =
    search (rules, past_at, bits_after, bits-said, c.args.self.now, c.in-Events.ensures)

pub returns-in-Entry-clause-tells : goal.returns-in-Entry-clause-tells
returns-in-Entry-clause-tells c = λ past knows.
    let reader = c.args.self.now in
    let found = c.in-Entry.ensures past (sym knows.end) in
    record {
      stretch = stretch_with c.in-Entry.len found.fields past.said;
      is = segment-with c.in-Entry.len _ _ _ _
          (found.bits_are ∙ bits-on found.fields reader.names reader.distinct) knows.pending;
      goes_on = record {
        state = past_at (past.end + c.in-Entry.len) [];
        says = found.says;
        is_held = record {
          end = ap (λ end. end + c.in-Entry.len) knows.end;
          pending = sym (bits-none reader.events);
        };
      };
    }

pub returns-in-Wrong-clause-tells : goal.returns-in-Wrong-clause-tells
returns-in-Wrong-clause-tells c = λ past knows.
    let found = c.in-Wrong.ensures past (sym knows.end) in
    record { says = λ _. found.0; never_spent = found.1 }

pub returns-in-Wrong-clause-kinds : goal.returns-in-Wrong-clause-kinds
returns-in-Wrong-clause-kinds c =
    let found = c.in-Wrong.ensures (past_at c.args.self.now.known.end []) refl in
    λ e. let same : c.in-Wrong.kind ≡ Spent = cc (e) in found.1 same
