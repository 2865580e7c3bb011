-- The search's reply decides: accepted, the map has no more stations than the table, and the station's time is shown;
-- refused, the refusal's number is.
use Rattle.common.proofs.Ground.{◌≡◌, sym, ap, ◌∙◌, arith}
use Rattle.common.specs.Numbers.{no_time}
use Rattle.common.proofs.Windows.{any-default}
use Rattle.image.specs.Image.{accepted}
use Rattle.reply.specs.Reply.{asked, Reply}
use Rattle.panel.proofs.Answers.{found, answer_on_map, few_on_map}
use Rattle.panel.specs.declared.Shown.TheVariants.{Refused}
use Rattle.panel.proofs.on_map.Goals as goal

pub bounds-times-station : goal.bounds-times-station
bounds-times-station c =
    let accepts : (found (asked c.args.image.now c.args.source c.args.strip)).reply.outcome ≡ accepted =
    sym (ap (λ (r : Reply). r.outcome) c.in-Ok.ensures.reply) in
    omega (arith, few_on_map (asked c.args.image.now c.args.source c.args.strip) accepts, c.requires.inside)

pub returns-in-Ok : goal.returns-in-Ok
returns-in-Ok c =
    let accepts : (found (asked c.args.image.now c.args.source c.args.strip)).reply.outcome ≡ accepted =
    sym (ap (λ (r : Reply). r.outcome) c.in-Ok.ensures.reply) in
    let few = few_on_map (asked c.args.image.now c.args.source c.args.strip) accepts in
    record {
      value = c.of_time.ensures.value ∙
          rw (
            answer_on_map (asked c.args.image.now c.args.source c.args.strip) c.args.station c.requires.inside,
            accepts,
            ← c.in-Ok.ensures.times,
            any-default c.df_times.new.times c.args.station 0 no_time
                (omega (arith, few, c.requires.inside, c.df_times.auto.times)),
          );
    }

pub returns-in-Err : goal.returns-in-Err
returns-in-Err c = record {
  value = ap Refused c.number.ensures.value ∙ rw (
    answer_on_map (asked c.args.image.now c.args.source c.args.strip) c.args.station c.requires.inside,
    ← c.in-Err.ensures.reply,
  );
}
