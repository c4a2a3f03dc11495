pub mod WidgetCodecs
pub mod WidgetJsonCodecs
pub mod WidgetRonCodecs
