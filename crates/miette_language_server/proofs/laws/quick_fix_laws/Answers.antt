use Rattle.miette_language_server.proofs.EditParts.{finding_parts, joint_parts}
use Rattle.miette_language_server.proofs.laws.quick_fix_laws.Goals as goal

pub returns-clause-joint : goal.returns-clause-joint
returns-clause-joint c = joint_parts

pub returns-clause-own : goal.returns-clause-own
returns-clause-own c = finding_parts
