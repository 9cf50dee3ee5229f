use Rattle.tre_tool.proofs.program.exit_code.Goals as goal

pub returns : goal.returns
returns g c = record {
  status = c.run_all-status.result;
  is = c.code.ensures;
  checks = _;
  input = _;
  written = _;
  told = _;
  ends = rw (c.new-checks.ensures, c.new-input.ensures, c.over-out.ensures) at
      c.run_all-status.ensures.ends;
  error = rw (c.over-err.ensures) at c.run_all-status.ensures.error;
}
