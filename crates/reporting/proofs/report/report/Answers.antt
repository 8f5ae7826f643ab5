use Rattle.reporting.proofs.Tellings.{report_laws}
use Rattle.reporting.proofs.report.report.Goals as goal

pub returns-clause-law : goal.returns-clause-law
returns-clause-law c = report_laws
