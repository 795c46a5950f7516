use Rattle.std.proofs.Common.{drop, map}
use Rattle.std.specs.Prelude.{string_bytes}
use Rattle.gt_program.proofs.Obeyed.{done, refused_words}
use Rattle.gt_program.proofs.obeying.obey_long.Goals as goal

pub returns-in-Ok : goal.returns-in-Ok
returns-in-Ok g c = done _ c.args.failed _ _ _ _ _ c.in-Ok.invocation _ c.in-Ok.ensures.answers (c.follow-outcome.ensures c.args.failed)

pub returns-in-Err : goal.returns-in-Err
returns-in-Err g c = refused_words (drop 1 (map string_bytes c.args.words.now)) c.args.context.now.style.width (g.T.TextSource.file c.args.context.now.texts.now)
    (g.T.TextSource.input c.args.context.now.texts.now) _ _ c.in-Err.error c.args.failed _ c.requires c.in-Err.ensures.answers (record {
      memory = c.refuse.ensures.memory;
      help = c.refuse.ensures.help;
      version = c.refuse.ensures.version;
      wrong = c.refuse.ensures.wrong;
      silent = c.refuse.ensures.silent;
    })
