-- The names of other crates, and of the code, that the definitions here use.
pub use Rattle.gt_policy.specs.declared.fault.ReadError.{ReadError}
pub use Rattle.gt_policy.specs.declared.fault.TokenFault.{TokenFault}
pub use Rattle.gt_policy.specs.declared.fault.TokenFaultKind.{TokenFaultKind}
pub use Rattle.gt_policy.specs.declared.fault.TokenFaultKind.TheVariants.{Outside, Permission, Syntax, Unknown}
pub use Rattle.gt_policy_text.specs.declared.lexer.Token.{Token}
pub use Rattle.gt_policy_text.specs.declared.lexer.Token.TheVariants.{AllowWord, AttributeWord, Close, Colon, Comma}
pub use Rattle.gt_policy_text.specs.declared.lexer.Token.TheVariants.{End, Minus, Name, Open, SelfWord, Semicolon, Star}
pub use Rattle.gt_policy_text.specs.declared.lexer.Token.TheVariants.{Tilde, TypeWord, TypeattributeWord}
pub use Rattle.gt_policy.specs.declared.resolve.Draft.{Draft}
pub use Rattle.gt_policy.specs.declared.resolve.DraftElement.{DraftElement}
pub use Rattle.gt_policy.specs.declared.statements.Allowance.{Allowance}
pub use Rattle.gt_policy.specs.declared.statements.Mention.{Mention}
pub use Rattle.gt_policy.specs.declared.statements.Permissions.{Permissions}
pub use Rattle.gt_policy.specs.declared.statements.Permissions.TheVariants.{Every, Named}
pub use Rattle.gt_policy.specs.declared.statements.SetElement.{SetElement}
pub use Rattle.gt_policy.specs.declared.statements.SetElement.TheVariants.{Itself, With, Without}
pub use Rattle.gt_policy.specs.declared.statements.Statement.{Statement}
pub use Rattle.gt_policy.specs.declared.statements.Statement.TheVariants.{Allow, DeclareAttribute, DeclareType}
pub use Rattle.gt_policy.specs.declared.statements.Statement.TheVariants.{GiveAttributes}
pub use Rattle.gt_policy.specs.declared.symbols.Symbol.{Symbol}
pub use Rattle.gt_policy.specs.declared.symbols.Symbol.TheVariants.{IsAttribute, IsType}
pub use Rattle.gt_types.specs.Memory.{UnlessMemory}
pub use Rattle.gt_types.specs.Names.{permission_of}
pub use Rattle.gt_types.specs.declared.perms.Perms.{Perms}
pub use Rattle.std.specs.List.{list_all, list_any}
pub use Rattle.std.specs.Str.{bytes_eq}
