use Rattle.boundary_verify.proofs.Rules.{alone, each}
use Rattle.boundary_verify.proofs.laws.cuts_and_grants.Goals as goal

pub returns-clause-alone : goal.returns-clause-alone
returns-clause-alone c = alone

pub returns-clause-each : goal.returns-clause-each
returns-clause-each c = each
